-- Lists of waiters.
use Rattle.std.proofs.Common.{◌≡◌, ◌<◌, ◌⊎◌, ℕ, zero, suc, List, [], ◌∷◌, ◌++◌, length, Some, refl, sym, ap, ◌∙◌, subst, inl, inr, arith}
use Rattle.std.proofs.Math.ListN.{set}
use Rattle.std.specs.Global.{Vec}
use Rattle.std.specs.List.{Contains, slice_get}
use Rattle.std.proofs.lemmas.Bool.{cases_eq}
use Rattle.std.proofs.lemmas.List.Elements.{Contains-append_left, Contains-push, Contains-push_cases}
use Rattle.std.proofs.lemmas.Option.{slice_get_within}
use Rattle.go_init.specs.declared.queue.Waiter.{Waiter}
use Rattle.go_init.specs.Queues.{IsAt}
use Rattle.go_init.proofs.Members.{one_of}

pub at_set : {A : Type 0} (xs : List A) (i : ℕ) (x : A) → i < length xs → slice_get (set xs i x) i ≡ Some x
at_set [] i x lt = absurd (omega (arith, lt))
at_set (y ∷ ys) zero x lt = refl
at_set (y ∷ ys) (suc i) x lt = at_set ys i x (omega (arith, lt))

pub at_other : {A : Type 0} (xs : List A) (i j : ℕ) (x : A) → (j ≡ i → ⊥) → slice_get (set xs i x) j ≡ slice_get xs j
at_other [] i j x ne = refl
at_other (y ∷ ys) zero zero x ne = absurd (ne refl)
at_other (y ∷ ys) zero (suc j) x ne = refl
at_other (y ∷ ys) (suc i) zero x ne = refl
at_other (y ∷ ys) (suc i) (suc j) x ne = at_other ys i j x (λ e. ne (ap suc e))

module _ (old new : List (Vec Waiter)) (i : ℕ) (waiter : Waiter) (its more : Vec Waiter) (at : slice_get old i ≡ Some its) (is : new ≡ set old i more) (pushed : more.items ≡ its.items ++ waiter ∷ []) where
  at_it : slice_get new i ≡ Some more
  at_it = ap (λ l. slice_get l i) is ∙ at_set old i more (slice_get_within old i its at)

  pub added_from : (j : ℕ) (w : Waiter) → IsAt new j w → IsAt old j w ⊎ ((j ≡ i) × (w ≡ waiter))
  added_from j w (ws, there, has) = elim (cases_eq j i) [
    | inl same ↦ (
        let both : Some ws ≡ Some more = sym (ap (slice_get new) (sym same) ∙ there) ∙ at_it in
        let it : ws ≡ more = cc in
        elim (Contains-push_cases its.items waiter w (subst (λ l. Contains l w) (ap (λ (v : Vec Waiter). v.items) it ∙ pushed) has)) [
          | inl one ↦ inl (its, ap (slice_get old) same ∙ at, one)
          | inr last ↦ inr (same, sym last)
        ])
    | inr ne ↦ inl (ws, sym (at_other old i j more ne) ∙ sym (ap (λ l. slice_get l j) is) ∙ there, has)
  ]

  pub added_to : (j : ℕ) (w : Waiter) → IsAt old j w ⊎ ((j ≡ i) × (w ≡ waiter)) → IsAt new j w
  added_to j w (inl (ws, there, has)) = elim (cases_eq j i) [
    | inl same ↦ (
        let both : Some ws ≡ Some its = sym (ap (slice_get old) (sym same) ∙ there) ∙ at in
        let it : ws ≡ its = cc in
        (more, ap (slice_get new) same ∙ at_it, subst (λ l. Contains l w) (sym pushed) (Contains-append_left its.items (waiter ∷ []) w (subst (λ (v : Vec Waiter). Contains v.items w) it has))))
    | inr ne ↦ (ws, ap (λ l. slice_get l j) is ∙ at_other old i j more ne ∙ there, has)
  ]
  added_to j w (inr (same, it)) = (more, ap (slice_get new) same ∙ at_it, subst (λ l. Contains l w) (sym pushed) (subst (λ x. Contains (its.items ++ waiter ∷ []) x) (sym it) (Contains-push its.items waiter)))

-- one more list without waiters has none
pub none_at : (old : List (Vec Waiter)) (v : Vec Waiter) → v.items ≡ [] → ((j : ℕ) (w : Waiter) → ¬ (IsAt old j w)) → (j : ℕ) (w : Waiter) → ¬ (IsAt (old ++ v ∷ []) j w)
none_at [] v empty none zero w (its, at, has) =
    let it : v ≡ its = cc in
    one_of [] w (subst (λ l. Contains l w) empty (subst (λ (x : Vec Waiter). Contains x.items w) (sym it) has))
none_at [] v empty none (suc j) w (its, at, has) = cc
none_at (o ∷ old) v empty none zero w h = none zero w h
none_at (o ∷ old) v empty none (suc j) w h = none_at old v empty (λ i x k. none (suc i) x k) j w h

-- where a list was emptied, only that one lost its waiters
module _ (old : List (Vec Waiter)) (n : ℕ) (v : Vec Waiter) (inside : n < length old) (empty : v.items ≡ []) where
  pub emptied_from : (j : ℕ) (w : Waiter) → IsAt (set old n v) j w → IsAt old j w × (j ≡ n → ⊥)
  emptied_from j w (its, at, has) = elim (cases_eq j n) [
    | inl same ↦ (
        let both : Some v ≡ Some its = sym (at_set old n v inside) ∙ sym (ap (slice_get (set old n v)) same) ∙ at in
        let it : v ≡ its = cc in
        absurd (one_of [] w (subst (λ l. Contains l w) empty (subst (λ (x : Vec Waiter). Contains x.items w) (sym it) has))))
    | inr ne ↦ ((its, sym (at_other old n j v (λ e. omega (arith, ne, e))) ∙ at, has), λ e. omega (arith, ne, e))
  ]

  pub emptied_to : (j : ℕ) (w : Waiter) → IsAt old j w → (j ≡ n → ⊥) → IsAt (set old n v) j w
  emptied_to j w (its, at, has) ne = (its, at_other old n j v ne ∙ at, has)
