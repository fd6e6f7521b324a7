-- What counts tell, and what they tell once they grow.
use Rattle.std.specs.Prelude.{◌≡◌, ◌≢◌, ◌≤◌, ◌<◌, ◌+◌, ◌==◌, ◌||◌, ◌⊎◌, ℕ, max, Bool, true, false, cond, List, [], ◌∷◌, ◌++◌, take, drop, length}
use Rattle.std.specs.List.{Contains}
use Rattle.std.proofs.lemmas.List.{take-append-drop, take-append-le, take-take}
use Rattle.std.proofs.lemmas.List.Elements.{Contains-append_left}
use Rattle.std.proofs.lemmas.Bool.{cases_eq, cases_lt, eqb-true, eq-eqb, false_from_ne_true}
use Rattle.std.proofs.Common.{refl, sym, ap, subst, ◌∙◌, inl, inr, arith, length-append}
use Rattle.ws_version_vector.specs.Counts.{count_at, counts_at, IsBelow, IsMost, IsRaised, is_among, greatest_count}
use Rattle.ws_version_vector.specs.Taken.{IsCounted}

max_left : (m n : ℕ) → n ≤ m → max m n ≡ m
max_left m n le = omega (arith, le)

max_right : (m n : ℕ) → m < n → max m n ≡ n
max_right m n lt = omega (arith, lt)

pub left_most : (c d e : List ℕ) → IsMost c d e → IsBelow c e
left_most c d e most j = let m = most j in omega (arith, m)

pub right_most : (c d e : List ℕ) → IsMost c d e → IsBelow d e
right_most c d e most j = let m = most j in omega (arith, m)

pub raised_above : (k : ℕ) (c d : List ℕ) → IsRaised k c d → IsBelow c d
raised_above k c d h j = elim (cases_eq j k) [
  | inl e ↦ let r = subst (λ z. count_at z d ≡ count_at z c + 1) (sym e) h.raised in omega (arith, r)
  | inr ne ↦ let r = h.others j ne in omega (arith, r)
]

-- ---- parts of a list
pub of_take : {A : Type 0} (n : ℕ) (l : List A) (a : A) → Contains (take n l) a → Contains l a
of_take n l a c = subst (λ z. Contains z a) (take-append-drop n l) (Contains-append_left (take n l) (drop n l) a c)

pub take_longer : {A : Type 0} (m n : ℕ) (l : List A) (a : A) → m ≤ n → Contains (take m l) a → Contains (take n l) a
take_longer m n l a le c = of_take m (take n l) a (subst (λ z. Contains z a) (sym (take-take m n l le)) c)

module _ {A : Type 0} where
  pub told_below : (lists : ℕ → List (List A)) (c d : List ℕ) (a : A) → IsBelow c d → IsCounted lists c a → IsCounted lists d a
  told_below lists c d a le t = (t.0, t.1, take_longer (count_at t.0 c) (count_at t.0 d) (lists t.0) t.1 (le t.0) t.2, t.3)

  pub of_most : (lists : ℕ → List (List A)) (c d e : List ℕ) (a : A) → IsMost c d e → IsCounted lists e a → IsCounted lists c a ⊎ IsCounted lists d a
  of_most lists c d e a most t = elim (cases_lt (count_at t.0 c) (count_at t.0 d)) [
    | inl lt ↦ inr (t.0, t.1, subst (λ n. Contains (take n (lists t.0)) t.1) (most t.0 ∙ max_right (count_at t.0 c) (count_at t.0 d) lt) t.2, t.3)
    | inr ge ↦ inl (t.0, t.1, subst (λ n. Contains (take n (lists t.0)) t.1) (most t.0 ∙ max_left (count_at t.0 c) (count_at t.0 d) ge) t.2, t.3)
  ]

  -- ---- one more batch
  abbrev pub grown : (ℕ → List (List A)) → ℕ → List A → ℕ → List (List A)
  grown lists k batch j = cond (j == k) (lists j ++ batch ∷ []) (lists j)

  pub grown_at : (lists : ℕ → List (List A)) (k : ℕ) (batch : List A) (j : ℕ) → j ≡ k → grown lists k batch j ≡ lists j ++ batch ∷ []
  grown_at lists k batch j e = ap (λ b. cond b (lists j ++ batch ∷ []) (lists j)) (eq-eqb j k e)

  pub grown_other : (lists : ℕ → List (List A)) (k : ℕ) (batch : List A) (j : ℕ) → j ≢ k → grown lists k batch j ≡ lists j
  grown_other lists k batch j ne = ap (λ b. cond b (lists j ++ batch ∷ []) (lists j)) (false_from_ne_true (j == k) (λ q. ne (eqb-true j k q)))

  pub grown_long : (lists : ℕ → List (List A)) (k : ℕ) (batch : List A) (j : ℕ) → j ≡ k → length (grown lists k batch j) ≡ length (lists j) + 1
  grown_long lists k batch j e =
      let one = ap length (grown_at lists k batch j e) in
      let two = length-append (lists j) (batch ∷ []) in
      omega (arith, one, two)

  pub grown_longer : (lists : ℕ → List (List A)) (k : ℕ) (batch : List A) (j : ℕ) → length (lists j) ≤ length (grown lists k batch j)
  grown_longer lists k batch j = elim (cases_eq j k) [
    | inl e ↦ let one = grown_long lists k batch j e in omega (arith, one)
    | inr ne ↦ let one = ap length (grown_other lists k batch j ne) in omega (arith, one)
  ]

  -- counts that are within the lists tell the same
  pub grown_told : (lists : ℕ → List (List A)) (k : ℕ) (batch : List A) (c : List ℕ) (j : ℕ) → count_at j c ≤ length (lists j) → take (count_at j c) (grown lists k batch j) ≡ take (count_at j c) (lists j)
  grown_told lists k batch c j within = elim (cases_eq j k) [
    | inl e ↦ ap (take (count_at j c)) (grown_at lists k batch j e) ∙ take-append-le (count_at j c) (lists j) (batch ∷ []) within
    | inr ne ↦ ap (take (count_at j c)) (grown_other lists k batch j ne)
  ]

-- ---- the greatest of some
or_true : (b c : Bool) → c ≡ true → (b || c) ≡ true
or_true true c e = refl
or_true false c e = e

pub among_first : (k : ℕ) (ks : List ℕ) → is_among k (k ∷ ks) ≡ true
among_first k ks = ap (λ b. b || is_among k ks) (eq-eqb k k refl)

pub among_later : (x k : ℕ) (ks : List ℕ) → is_among k ks ≡ true → is_among k (x ∷ ks) ≡ true
among_later x k ks e = or_true (x == k) (is_among k ks) e

above_by : (all : List (List ℕ)) (x t j most : ℕ) (b c : Bool) → (x == t) ≡ b → (b || c) ≡ true → (c ≡ true → count_at j (counts_at t all) ≤ most) → count_at j (counts_at t all) ≤ max (count_at j (counts_at x all)) most
above_by all x t j most true c is e f = let same = ap (λ y. count_at j (counts_at y all)) (eqb-true x t is) in omega (arith, same)
above_by all x t j most false c is e f = let below = f e in omega (arith, below)

pub greatest_above : (all : List (List ℕ)) (ks : List ℕ) (j t : ℕ) → is_among t ks ≡ true → count_at j (counts_at t all) ≤ greatest_count all ks j
greatest_above all [] j t e = cc
greatest_above all (x ∷ xs) j t e = above_by all x t j (greatest_count all xs j) (x == t) (is_among t xs) refl e (λ r. greatest_above all xs j t r)

pub greatest_within : (all : List (List ℕ)) (ks : List ℕ) (j n : ℕ) → ((t : ℕ) → count_at j (counts_at t all) ≤ n) → greatest_count all ks j ≤ n
greatest_within all [] j n h = omega arith
greatest_within all (x ∷ xs) j n h =
    let first = h x in
    let later = greatest_within all xs j n h in
    omega (arith, first, later)

-- one of them has it
pub greatest_is : (all : List (List ℕ)) (ks : List ℕ) (j : ℕ) → (greatest_count all ks j ≡ 0) ⊎ ((t : ℕ) × (is_among t ks ≡ true) × (greatest_count all ks j ≡ count_at j (counts_at t all)))
greatest_is all [] j = inl refl
greatest_is all (x ∷ xs) j = elim (cases_lt (count_at j (counts_at x all)) (greatest_count all xs j)) [
  | inl lt ↦ elim (greatest_is all xs j) [
    | inl none ↦ absurd (omega (arith, lt, none))
    | inr f ↦ inr (f.0, among_later x f.0 xs f.1, max_right (count_at j (counts_at x all)) (greatest_count all xs j) lt ∙ f.2)
  ]
  | inr ge ↦ inr (x, among_first x xs, max_left (count_at j (counts_at x all)) (greatest_count all xs j) ge)
]
