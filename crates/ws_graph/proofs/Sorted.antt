-- Lists that ascend: those with the same members are one, and their elements differ.
use Rattle.std.proofs.Common.{◌≡◌, ℕ, zero, suc, List, [], ◌∷◌, Some, refl, sym, ap, ◌∙◌, subst, inl, inr, arith}
use Rattle.std.specs.List.{Contains, AllByRecursion, slice_get}
use Rattle.std.specs.List.Sorted.{IsStrictlySortedBy}
use Rattle.std.specs.Cmp.{IsTotalOrder}
use Rattle.std.specs.Ordering.{ordering_reverse}
use Rattle.std.specs.declared.cmp.Ordering.{Ordering}
use Rattle.std.specs.declared.cmp.Ordering.TheVariants.{Less, Greater}
use Rattle.ws_reach.proofs.Closure.{IsOneOf}
use Rattle.ws_reach.proofs.Reached.{get_contains}

pub one_of : {A : Type 0} (xs : List A) (x : A) → Contains xs x → IsOneOf x xs
one_of [] x (k, lt, is) = absurd (omega (arith, lt))
one_of (y ∷ ys) x (zero, lt, is) = inl (sym is)
one_of (y ∷ ys) x (suc k, lt, is) = inr (one_of ys x (k, omega (arith, lt), is))

pub contained : {A : Type 0} (xs : List A) (x : A) → IsOneOf x xs → Contains xs x
contained [] x h = absurd h
contained (y ∷ ys) x (inl e) = (0, omega arith, sym e)
contained (y ∷ ys) x (inr h) = (let c = contained ys x h in let lt = c.1 in (suc c.0, omega (arith, lt), c.2))

pub among_all : {A : Type 0} (P : A → Type 0) (xs : List A) (x : A) → AllByRecursion P xs → IsOneOf x xs → P x
among_all P [] x all h = absurd h
among_all P (y ∷ ys) x all (inl e) = subst P (sym e) all.0
among_all P (y ∷ ys) x all (inr h) = among_all P ys x all.1 h

module _ {A : Type 0} (R : A → A → Ordering) (o : IsTotalOrder R) where
  pub not_both : (x y : A) → R x y ≡ Less → R y x ≡ Less → ⊥
  not_both x y g h = let e : Less ≡ Greater = sym g ∙ o.antisymm x y ∙ ap ordering_reverse h in cc (e)

  -- the heads are one
  heads : (x y : A) (xs ys : List A) → AllByRecursion (λ z. R x z ≡ Less) xs → AllByRecursion (λ z. R y z ≡ Less) ys → IsOneOf x (y ∷ ys) → IsOneOf y (x ∷ xs) → x ≡ y
  heads x y xs ys a b (inl e) there = e
  heads x y xs ys a b (inr here) (inl e) = sym e
  heads x y xs ys a b (inr here) (inr there) = absurd (not_both x y (among_all (λ z. R x z ≡ Less) xs y a there) (among_all (λ z. R y z ≡ Less) ys x b here))

  -- what is in the tail is no head
  in_tail : (x z : A) (xs ys : List A) → AllByRecursion (λ w. R x w ≡ Less) xs → IsOneOf z xs → IsOneOf z (x ∷ ys) → IsOneOf z ys
  in_tail x z xs ys a here (inl e) = absurd (let l = among_all (λ w. R x w ≡ Less) xs z a here in let s : R x x ≡ Less = subst (λ w. R x w ≡ Less) e l in not_both x x s s)
  in_tail x z xs ys a here (inr there) = there

  same_members : (xs ys : List A) → IsStrictlySortedBy R xs → IsStrictlySortedBy R ys → ((z : A) → IsOneOf z xs → IsOneOf z ys) → ((z : A) → IsOneOf z ys → IsOneOf z xs) → xs ≡ ys
  unfolding IsStrictlySortedBy
  same_members [] [] g h to from = refl
  same_members [] (y ∷ ys) g h to from = absurd (from y (inl refl))
  same_members (x ∷ xs) [] g h to from = absurd (to x (inl refl))
  same_members (x ∷ xs) (y ∷ ys) g h to from =
      let e : x ≡ y = heads x y xs ys g.0 h.0 (to x (inl refl)) (from y (inl refl)) in
      let b : AllByRecursion (λ z. R x z ≡ Less) ys = subst (λ w. AllByRecursion (λ z. R w z ≡ Less) ys) (sym e) h.0 in
      let tails : xs ≡ ys = same_members xs ys g.1 h.1
      (λ z here. in_tail x z xs ys g.0 here (subst (λ w. IsOneOf z (w ∷ ys)) (sym e) (to z (inr here))))
      (λ z here. in_tail x z ys xs b here (from z (inr here))) in
      ap (λ w. w ∷ xs) e ∙ ap (λ l. y ∷ l) tails

  pub one_sorted : (xs ys : List A) → IsStrictlySortedBy R xs → IsStrictlySortedBy R ys → ((z : A) → Contains xs z → Contains ys z) → ((z : A) → Contains ys z → Contains xs z) → xs ≡ ys
  one_sorted xs ys g h to from = same_members xs ys g h (λ z k. one_of ys z (to z (contained xs z k))) (λ z k. one_of xs z (from z (contained ys z k)))

  -- an element stands at one place
  pub one_place : (xs : List A) → IsStrictlySortedBy R xs → (x : A) (i j : ℕ) → slice_get xs i ≡ Some x → slice_get xs j ≡ Some x → i ≡ j
  unfolding IsStrictlySortedBy
  one_place [] s x i j a b = cc
  one_place (y ∷ ys) s x zero zero a b = refl
  one_place (y ∷ ys) s x zero (suc j) a b =
      let e : y ≡ x = (let p : Some y ≡ Some x = a in cc) in
      let l = among_all (λ z. R y z ≡ Less) ys x s.0 (one_of ys x (get_contains ys j x b)) in
      let t : R x x ≡ Less = subst (λ w. R w x ≡ Less) e l in absurd (not_both x x t t)
  one_place (y ∷ ys) s x (suc i) zero a b =
      let e : y ≡ x = (let p : Some y ≡ Some x = b in cc) in
      let l = among_all (λ z. R y z ≡ Less) ys x s.0 (one_of ys x (get_contains ys i x a)) in
      let t : R x x ≡ Less = subst (λ w. R w x ≡ Less) e l in absurd (not_both x x t t)
  one_place (y ∷ ys) s x (suc i) (suc j) a b = ap suc (one_place ys s.1 x i j a b)
