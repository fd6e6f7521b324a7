-- What is read of a list that grows.
use Rattle.std.specs.Prelude.{◌≡◌, ◌<◌, ◌≤◌, ◌+◌, ◌==◌, ◌||◌, ℕ, zero, suc, max, Bool, true, false, List, [], ◌∷◌, ◌++◌, length, slice_index_or}
use Rattle.std.proofs.Math.ListN.{set}
use Rattle.std.proofs.lemmas.List.{get_or-set_same, get_or-set_other}
use Rattle.std.proofs.lemmas.Bool.{cases_eq, cases_lt, eqb-true, eq-eqb}
use Rattle.std.proofs.Common.{refl, sym, ap, subst, ◌∙◌, inl, inr, arith}
use Rattle.ws_version_vector.specs.Counts.{count_at, IsBelow, IsMost, AreFirstNumbers, is_among}

-- one more that is read as what is missing
pub push_reads : {X : Type 0} (xs : List X) (d : X) (j : ℕ) → slice_index_or (xs ++ d ∷ []) j d ≡ slice_index_or xs j d
push_reads [] d zero = refl
push_reads [] d (suc j) = refl
push_reads (x ∷ xs) d zero = refl
push_reads (x ∷ xs) d (suc j) = push_reads xs d j

pub past_reads : {X : Type 0} (xs : List X) (j : ℕ) (d : X) → length xs ≤ j → slice_index_or xs j d ≡ d
past_reads [] j d le = refl
past_reads (x ∷ xs) zero d le = absurd (omega (arith, le))
past_reads (x ∷ xs) (suc j) d le = past_reads xs j d (omega (arith, le))

-- ---- counts that are compared
pub below_all : (mine theirs : List ℕ) (n : ℕ) → length mine ≤ n → ((j : ℕ) → j < n → count_at j mine ≤ count_at j theirs) → IsBelow mine theirs
below_all mine theirs n le h j = elim (cases_lt j n) [
  | inl lt ↦ h j lt
  | inr ge ↦ let none = past_reads mine j 0 (omega (arith, le, ge)) in omega (arith, none)
]

-- ---- the greater of two
pub record AreTaken (old theirs new : List ℕ) (i : ℕ) : Type 0 where
  pub done : (j : ℕ) → j < i → count_at j new ≡ max (count_at j old) (count_at j theirs)
  pub rest : (j : ℕ) → i ≤ j → count_at j new ≡ count_at j old

pub none_taken : (old theirs : List ℕ) → AreTaken old theirs old 0
none_taken old theirs = record { done = λ j lt. absurd (omega (arith, lt)); rest = λ j le. refl }

pub taken_more : (old theirs new : List ℕ) (i x : ℕ) → AreTaken old theirs new i → i < length new → x ≡ max (count_at i new) (count_at i theirs) → AreTaken old theirs (set new i x) (i + 1)
taken_more old theirs new i x h lt is = record {
  done = λ j below. elim (cases_eq j i) [
    | inl e ↦
        let here : count_at i (set new i x) ≡ x = get_or-set_same new i x 0 lt in
        let before : count_at i new ≡ count_at i old = h.rest i (omega arith) in
        subst (λ z. count_at z (set new i x) ≡ max (count_at z old) (count_at z theirs)) (sym e) (here ∙ is ∙ ap (λ n. max n (count_at i theirs)) before)
    | inr ne ↦ get_or-set_other new i j x 0 ne ∙ h.done j (let b = below in omega (arith, b, ne))
  ];
  rest = λ j above. get_or-set_other new i j x 0 (λ e. absurd (omega (arith, above, e))) ∙ h.rest j (omega (arith, above));
}

pub taken_all : (old theirs new : List ℕ) (n : ℕ) → AreTaken old theirs new n → length theirs ≤ n → IsMost old theirs new
taken_all old theirs new n h le j = elim (cases_lt j n) [
  | inl lt ↦ h.done j lt
  | inr ge ↦
      let none = past_reads theirs j 0 (omega (arith, le, ge)) in
      let same = h.rest j ge in
      omega (arith, none, same)
]

pub most_of_none : (old theirs : List ℕ) → length theirs ≡ 0 → IsMost old theirs old
most_of_none old theirs e j = let none = past_reads theirs j 0 (omega (arith, e)) in omega (arith, none)

pub most_from : (old longer theirs new : List ℕ) → ((j : ℕ) → count_at j longer ≡ count_at j old) → IsMost longer theirs new → IsMost old theirs new
most_from old longer theirs new same h j = h j ∙ ap (λ n. max n (count_at j theirs)) (same j)

-- ---- the first numbers
or_assoc : (a b c : Bool) → (a || (b || c)) ≡ ((a || b) || c)
or_assoc true b c = refl
or_assoc false b c = refl

among_append : (ks : List ℕ) (n k : ℕ) → is_among k (ks ++ n ∷ []) ≡ (is_among k ks || is_among k (n ∷ []))
among_append [] n k = refl
among_append (x ∷ ks) n k = ap (λ b. (x == k) || b) (among_append ks n k) ∙ or_assoc (x == k) (is_among k ks) (is_among k (n ∷ []))

or_left : (a b : Bool) → a ≡ true → (a || b) ≡ true
or_left a b e = ap (λ z. z || b) e

or_right : (a b : Bool) → b ≡ true → (a || b) ≡ true
or_right true b e = refl
or_right false b e = e

or_either : {P : Type 0} (a b : Bool) → (a || b) ≡ true → (a ≡ true → P) → (b ≡ true → P) → P
or_either true b e f g = f refl
or_either false b e f g = g e

among_one : (n k : ℕ) → n ≡ k → is_among k (n ∷ []) ≡ true
among_one n k e = or_left (n == k) false (eq-eqb n k e)

of_one : (n k : ℕ) → is_among k (n ∷ []) ≡ true → n ≡ k
of_one n k e = or_either (n == k) false e (λ t. eqb-true n k t) (λ f. cc)

pub first_more : (n : ℕ) (ks : List ℕ) → AreFirstNumbers n ks → AreFirstNumbers (n + 1) (ks ++ n ∷ [])
first_more n ks h k = (
  λ lt. among_append ks n k ∙ elim (cases_eq n k) [
    | inl e ↦ or_right (is_among k ks) (is_among k (n ∷ [])) (among_one n k e)
    | inr ne ↦ or_left (is_among k ks) (is_among k (n ∷ [])) ((h k).0 (let b = lt in omega (arith, b, ne)))
  ],
  λ e. or_either (is_among k ks) (is_among k (n ∷ [])) (sym (among_append ks n k) ∙ e) (λ old. let lt = (h k).1 old in omega (arith, lt)) (λ new. let is = of_one n k new in omega (arith, is)),
)

pub first_none : AreFirstNumbers 0 []
first_none k = (λ lt. absurd (omega (arith, lt)), λ e. cc)
