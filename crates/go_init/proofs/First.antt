-- Of numbers that ascend, the least that passes a test is the first.
use Rattle.std.proofs.Common.{◌≡◌, ℕ, suc, ◌<◌, Bool, true, false, not, List, [], ◌∷◌, Option, Some, None, refl, sym, ap, ◌∙◌, subst, inl, inr, arith}
use Rattle.std.specs.Prelude.{⊤, if◌then◌else◌, option_map}
use Rattle.std.specs.List.{list_any}
use Rattle.ws_reach.proofs.Closure.{IsOneOf}
use Rattle.go_init.specs.Turns.{first_passing, turn_order}

abbrev pub Ascending : List ℕ → Type 0
Ascending [] = ⊤
Ascending (x ∷ xs) = ((y : ℕ) → IsOneOf y xs → x < y) × Ascending xs

-- the others, when k was taken out
pub record AreOthers (xs : List ℕ) (k : ℕ) (ys : List ℕ) : Type 0 where
  pub ascend : Ascending ys
  pub within : (y : ℕ) → IsOneOf y ys → IsOneOf y xs × (y ≡ k → ⊥)
  pub all : (y : ℕ) → IsOneOf y xs → (y ≡ k → ⊥) → IsOneOf y ys

module _ (test : ℕ → Bool) where
  Least : List ℕ → ℕ → Type 0
  Least xs k = (ys : List ℕ) × (first_passing test xs ≡ Some (k, ys)) × AreOthers xs k ys

  at_head : (x : ℕ) (xs : List ℕ) → Ascending (x ∷ xs) → AreOthers (x ∷ xs) x xs
  at_head x xs a = record {
    ascend = a.1;
    within = λ y h. (inr h, λ e. (let lt = a.0 y h in absurd (omega (arith, lt, e))));
    all = λ y h ne. elim h [ inl e ↦ absurd (ne e) | inr r ↦ r ];
  }

  behind_head : (x k : ℕ) (xs ys : List ℕ) → Ascending (x ∷ xs) → x < k → AreOthers xs k ys → AreOthers (x ∷ xs) k (x ∷ ys)
  behind_head x k xs ys a lt o = record {
    ascend = (λ y h. a.0 y (o.within y h).0, o.ascend);
    within = λ y h. elim h [ inl e ↦ (inl e, λ f. absurd (omega (arith, lt, e, f))) | inr r ↦ (let w = o.within y r in (inr w.0, w.1)) ];
    all = λ y h ne. elim h [ inl e ↦ inl e | inr r ↦ inr (o.all y r ne) ];
  }

  pub least_first : (xs : List ℕ) (k : ℕ) → Ascending xs → IsOneOf k xs → test k ≡ true → ((j : ℕ) → IsOneOf j xs → j < k → test j ≡ false) → (ys : List ℕ) × (first_passing test xs ≡ Some (k, ys)) × AreOthers xs k ys
  least_first [] k a h is less = absurd h
  least_first (x ∷ xs) k a (inl e) is less = (
    xs,
    ap (λ b. if◌then◌else◌ {A = Option (ℕ × List ℕ)} b (Some (x, xs)) (option_map {U = ℕ × List ℕ} (λ (r : ℕ × List ℕ). (r.0, x ∷ r.1)) (first_passing test xs))) (ap test (sym e) ∙ is) ∙ ap (λ z. (let p : ℕ × List ℕ = (z, xs) in Some p)) (sym e),
    subst (λ z. AreOthers (x ∷ xs) z xs) (sym e) (at_head x xs a),
  )
  least_first (x ∷ xs) k a (inr h) is less =
      let lt = a.0 k h in
      let r = least_first xs k a.1 h is (λ j i below. less j (inr i) below) in (
        x ∷ r.0,
        ap (λ b. if◌then◌else◌ {A = Option (ℕ × List ℕ)} b (Some (x, xs)) (option_map {U = ℕ × List ℕ} (λ (r : ℕ × List ℕ). (r.0, x ∷ r.1)) (first_passing test xs))) (less x (inl refl) lt)
            ∙ ap (option_map {U = ℕ × List ℕ} (λ (r : ℕ × List ℕ). (r.0, x ∷ r.1))) r.1,
        behind_head x k xs r.0 a lt r.2,
      )

  pub none_first : (xs : List ℕ) → ((j : ℕ) → IsOneOf j xs → test j ≡ false) → first_passing test xs ≡ None
  none_first [] none = refl
  none_first (x ∷ xs) none =
      ap (λ b. if◌then◌else◌ {A = Option (ℕ × List ℕ)} b (Some (x, xs)) (option_map {U = ℕ × List ℕ} (λ (r : ℕ × List ℕ). (r.0, x ∷ r.1)) (first_passing test xs))) (none x (inl refl))
      ∙ ap (option_map {U = ℕ × List ℕ} (λ (r : ℕ × List ℕ). (r.0, x ∷ r.1))) (none_first xs (λ j h. none j (inr h)))

module _ (waits : ℕ → ℕ → Bool) where
  abbrev pub free : List ℕ → ℕ → Bool
  free xs x = not (list_any (waits x) xs)

  abbrev going : ℕ → List ℕ → Option (ℕ × List ℕ) → List ℕ × List ℕ
  going n xs o = elim o [ None ↦ ([], xs) | Some r ↦ (let rest = turn_order waits n r.1 in (r.0 ∷ rest.0, rest.1)) ]

  pub turns_some : (n : ℕ) (xs : List ℕ) (k : ℕ) (ys : List ℕ) → first_passing (free xs) xs ≡ Some (k, ys) → (turn_order waits (suc n) xs).0 ≡ k ∷ (turn_order waits n ys).0
  turns_some n xs k ys e = ap (λ o. (going n xs o).0) e

  pub turns_none : (n : ℕ) (xs : List ℕ) → first_passing (free xs) xs ≡ None → (turn_order waits (suc n) xs).0 ≡ []
  turns_none n xs e = ap (λ o. (going n xs o).0) e
