-- What a binary search finds where keys rise.
use Rattle.std.specs.Prelude.{◌≡◌, ◌<◌, ◌≤◌, ℕ, zero, suc, List, [], ◌∷◌, ◌++◌, length, take, drop, refl, Some}
use Rattle.std.specs.List.{AllByRecursion, AllWithin, slice_get}
use Rattle.std.specs.List.Sorted.{IsNonDecreasingBy}
use Rattle.std.specs.Ordering.{ordering_index, ordering_reverse}
use Rattle.std.specs.Cmp.{IsTotalOrder}
use Rattle.std.specs.FinMap.{IsAntisymmetric}
use Rattle.std.specs.declared.cmp.Ordering.{Ordering}
use Rattle.std.specs.declared.cmp.Ordering.TheVariants.{Less, Equal, Greater}
use Rattle.std.proofs.Common.{sym, ap, subst, ◌∙◌, get_or, arith}

module _ {X : Type 0} where
  -- what holds at each place before one, or from one on
  pub take-within : (P : X → Type 0) (xs : List X) (i : ℕ) → i ≤ length xs → AllWithin P xs 0 i → AllByRecursion P (take i xs)
  take-within P xs zero le h = tt
  take-within P [] (suc i) le h = tt
  take-within P (x ∷ xs) (suc i) le h = (h 0 x (omega arith) (omega arith), take-within P xs i (omega (arith, le)) (λ j d low lt. h (suc j) d (omega arith) (omega (arith, lt))))

  pub drop-within : (P : X → Type 0) (xs : List X) (i : ℕ) → AllWithin P xs i (length xs) → AllByRecursion P (drop i xs)
  drop-within P [] zero h = tt
  drop-within P [] (suc i) h = tt
  drop-within P (x ∷ xs) zero h = (h 0 x (omega arith) (omega arith), drop-within P xs zero (λ j d low lt. h (suc j) d (omega arith) (omega (arith, lt))))
  drop-within P (x ∷ xs) (suc i) h = drop-within P xs i (λ j d low lt. h (suc j) d (omega (arith, low)) (omega (arith, lt)))

  pub all-at : (P : X → Type 0) (xs : List X) (i : ℕ) (d : X) → i < length xs → AllByRecursion P xs → P (get_or xs i d)
  all-at P [] i d lt h = absurd (omega (arith, lt))
  all-at P (x ∷ xs) zero d lt h = h.0
  all-at P (x ∷ xs) (suc i) d lt h = all-at P xs i d (omega (arith, lt)) h.1

  -- what stands at a place
  pub parted : (xs : List X) (i : ℕ) (x : X) → slice_get xs i ≡ Some x → xs ≡ take i xs ++ x ∷ drop (suc i) xs
  parted [] i x e = cc
  parted (y ∷ ys) zero x e = let f : Some y ≡ Some x = e in let same : y ≡ x = cc in ap (λ z. z ∷ ys) same
  parted (y ∷ ys) (suc i) x e = ap (λ (l : List X). y ∷ l) (parted ys i x e)

  pub there : (xs : List X) (i : ℕ) → i < length xs → (x : X) × (slice_get xs i ≡ Some x) × ((d : X) → get_or xs i d ≡ x)
  there [] i lt = absurd (omega (arith, lt))
  there (x ∷ xs) zero lt = (x, refl, λ d. refl)
  there (x ∷ xs) (suc i) lt = there xs i (omega (arith, lt))

module _ {K : Type 0} {C : K → K → Ordering} (o : IsTotalOrder C) (same : IsAntisymmetric C) where
  rising : (x y k : K) (a b : Ordering) → C x y ≡ Less → C x k ≡ a → C y k ≡ b → ordering_index a ≤ ordering_index b
  rising x y k Less b l e f = omega arith
  rising x y k Equal Less l e f =
      let one : x ≡ k = same x k e in
      let back : C y x ≡ Less = subst (λ z. C y z ≡ Less) (sym one) f in
      let wrong : Less ≡ Greater = sym l ∙ o.antisymm x y ∙ ap ordering_reverse back in cc (wrong)
  rising x y k Equal Equal l e f = omega arith
  rising x y k Equal Greater l e f = omega arith
  rising x y k Greater Less l e f = let wrong : Less ≡ Greater = sym (o.trans x y k l f) ∙ e in cc (wrong)
  rising x y k Greater Equal l e f =
      let one : y ≡ k = same y k f in
      let wrong : Less ≡ Greater = sym (subst (λ z. C x z ≡ Less) one l) ∙ e in cc (wrong)
  rising x y k Greater Greater l e f = omega arith

  module _ {X : Type 0} (key : X → K) where
    -- the keys rise
    abbrev pub Rises : List X → Type 0
    Rises [] = Unit {0}
    Rises (x ∷ xs) = AllByRecursion (λ y. C (key x) (key y) ≡ Less) xs × Rises xs

    -- the answers of a search rise
    pub searchable : (k : K) (xs : List X) → Rises xs → IsNonDecreasingBy (λ x. ordering_index (C (key x) k)) xs
    searchable k [] h i j d le lt = absurd (omega (arith, lt))
    searchable k (x ∷ xs) h zero zero d le lt = omega arith
    searchable k (x ∷ xs) h zero (suc j) d le lt =
        let inside : j < length xs = omega (arith, lt) in
        rising (key x) (key (get_or xs j d)) k _ _ (all-at (λ y. C (key x) (key y) ≡ Less) xs j d inside h.0) refl refl
    searchable k (x ∷ xs) h (suc i) zero d le lt = absurd (omega (arith, le))
    searchable k (x ∷ xs) h (suc i) (suc j) d le lt = searchable k xs h.1 i j d (omega (arith, le)) (omega (arith, lt))

  pub turned_greater : (x y : K) → C x y ≡ Greater → C y x ≡ Less
  turned_greater x y e = o.antisymm y x ∙ ap ordering_reverse e
