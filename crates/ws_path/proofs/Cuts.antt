-- A list cut at the last element that passes a test.
use Rattle.std.proofs.Common.{◌≡◌, ℕ, ◌+◌, ◌-◌, ◌<◌, Bool, true, false, not, eqb, List, [], ◌∷◌, ◌++◌, reverse, length, get_or, take, drop, All, sym, ap, subst, ◌∙◌, append_assoc, append-nil, length-append, take-append-drop, take_at, drop_at, zero-add, ne_eqb, eqb-true, eq-eqb, leb, ◌⊎◌, inl, inr, refl, arith}
use Rattle.std.specs.List.{slice_split, prefix_len, suffix_len, before_last, after_last}
use Rattle.std.specs.Str.{NoCharPasses}
use Rattle.std.specs.Str.Pattern.{RFindsChar, SplitsAroundMatch}
use Rattle.std.proofs.lemmas.Bool.{cond-true, cond-false, not_from_true}
use Rattle.std.proofs.lemmas.List.{length_push, length-reverse, reverse-append, get_or_default}
use Rattle.std.proofs.lemmas.List.Elements.{All-nil, All-cons, All-head, All-tail, All-append}
use Rattle.std.proofs.lemmas.List.Splits.{slice_split_none}
use borrow.Author.Tests.{leb-true}
use Rattle.std.proofs.lemmas.Str.Pattern.{NoCharPasses-char, drop_at_char}

All-reverse : {X : Type 0} (P : X → Type 0) (xs : List X) → All P xs → All P (reverse xs)
All-reverse P [] h = h
All-reverse P (x ∷ xs) h =
    subst (All P) (sym (reverse-append (x ∷ []) xs))
    (All-append P (reverse xs) (x ∷ []) (All-reverse P xs (All-tail P x xs h)) (All-cons P x [] (All-head P x xs h) (All-nil P)))

module _ {X : Type 0} (p : X → Bool) where
  prefix_len-append : (xs ys : List X) → All (λ x. p x ≡ true) xs → prefix_len p (xs ++ ys) ≡ length xs + prefix_len p ys
  prefix_len-append [] ys h = sym (zero-add _)
  prefix_len-append (x ∷ xs) ys h =
      let rest = prefix_len-append xs ys (All-tail (λ y. p y ≡ true) x xs h) in
      cond-true (p x) _ 0 (All-head (λ y. p y ≡ true) x xs h) ∙ omega arith

  suffix_len_all : (xs : List X) → All (λ x. p x ≡ true) xs → suffix_len p xs ≡ length xs
  suffix_len_all xs h =
      let all = prefix_len-append (reverse xs) [] (All-reverse (λ x. p x ≡ true) xs h) in
      ap (prefix_len p) (sym (append-nil (reverse xs))) ∙ all ∙ omega (arith, length-reverse xs)

  suffix_len_at : (xs : List X) (y : X) (ys : List X) → p y ≡ false → All (λ x. p x ≡ true) ys → suffix_len p (xs ++ y ∷ ys) ≡ length ys
  suffix_len_at xs y ys stop h =
      let turned : reverse (xs ++ y ∷ ys) ≡ reverse ys ++ (y ∷ reverse xs) =
      reverse-append xs (y ∷ ys) ∙ ap (λ zs. zs ++ reverse xs) (reverse-append (y ∷ []) ys) ∙ append_assoc (reverse ys) (y ∷ []) (reverse xs) in
      let none : prefix_len p (y ∷ reverse xs) ≡ 0 = cond-false (p y) _ 0 stop in
      ap (prefix_len p) turned ∙ prefix_len-append (reverse ys) _ (All-reverse (λ x. p x ≡ true) ys h) ∙ omega (arith, length-reverse ys)

module _ {X : Type 0} (p : X → Bool) where
  pub before_last_none : (xs : List X) → All (λ x. not (p x) ≡ true) xs → before_last p xs ≡ []
  before_last_none xs h =
      let none : length xs - suffix_len (λ x. not (p x)) xs - 1 ≡ 0 = omega (arith, suffix_len_all (λ x. not (p x)) xs h) in
      ap (λ n. take n xs) none

  pub after_last_none : (xs : List X) → All (λ x. not (p x) ≡ true) xs → after_last p xs ≡ xs
  after_last_none xs h =
      let none : length xs - suffix_len (λ x. not (p x)) xs ≡ 0 = omega (arith, suffix_len_all (λ x. not (p x)) xs h) in
      ap (λ n. drop n xs) none

  pub before_last_at : (xs : List X) (y : X) (ys : List X) → p y ≡ true → All (λ x. not (p x) ≡ true) ys → before_last p (xs ++ y ∷ ys) ≡ xs
  before_last_at xs y ys here h =
      take_at xs (y ∷ ys) _ (omega (arith, suffix_len_at (λ x. not (p x)) xs y ys (not_from_true _ here) h, length-append xs (y ∷ ys)))

  pub after_last_at : (xs : List X) (y : X) (ys : List X) → p y ≡ true → All (λ x. not (p x) ≡ true) ys → after_last p (xs ++ y ∷ ys) ≡ ys
  after_last_at xs y ys here h =
      let n = length (xs ++ y ∷ ys) - suffix_len (λ x. not (p x)) (xs ++ y ∷ ys) in
      ap (drop n) (sym (append_assoc xs (y ∷ []) ys))
      ∙ drop_at (xs ++ y ∷ []) ys n (omega (arith, suffix_len_at (λ x. not (p x)) xs y ys (not_from_true _ here) h, length-append xs (y ∷ ys), length_push xs y))

-- no element of the text is the character c
pub lacks : (c : ℕ) (text : List ℕ) → NoCharPasses (λ d. eqb d c) text → c < 128 → All (λ b. not (eqb b c) ≡ true) text
lacks c text h low = λ k d lt. ap not (ap (λ b. eqb b c) (get_or_default text k d 0 lt) ∙ ne_eqb _ c (NoCharPasses-char c text k h low lt))

-- what the clause of `rsplit_once` at an ASCII character says of the two parts
pub around : (c : ℕ) (text front back : List ℕ) → SplitsAroundMatch (RFindsChar c) text front back → c < 128 → text ≡ front ++ c ∷ back
around c text front back h low =
    sym (take-append-drop h.0 text) ∙ ap (λ l. take h.0 text ++ l) (drop_at_char c text h.0 h.1 h.2.1 low)
    ∙ ap (λ l. l ++ c ∷ drop h.1 text) (sym h.3) ∙ ap (λ l. front ++ c ∷ l) (sym h.4)

pub behind : (c : ℕ) (text front back : List ℕ) → SplitsAroundMatch (RFindsChar c) text front back → c < 128 → All (λ b. not (eqb b c) ≡ true) back
behind c text front back h low = subst (All (λ b. not (eqb b c) ≡ true)) (sym h.4) (lacks c (drop h.1 text) h.2.0 low)

-- a list has no element that passes, or is cut at the last one
last_cut : (c : ℕ) (xs : List ℕ) → All (λ b. not (eqb b c) ≡ true) xs ⊎ ((front : List ℕ) × (back : List ℕ) × (xs ≡ front ++ c ∷ back) × All (λ b. not (eqb b c) ≡ true) back)
last_cut c [] = inl (All-nil (λ b. not (eqb b c) ≡ true))
last_cut c (x ∷ xs) = elim (last_cut c xs) [
  | inr cut ↦ inr (x ∷ cut.0, cut.1, ap (λ l. x ∷ l) cut.2, cut.3)
  | inl none ↦ elim (eqb x c) as (λ t. eqb x c ≡ t → All (λ b. not (eqb b c) ≡ true) (x ∷ xs) ⊎ ((front : List ℕ) × (back : List ℕ) × (x ∷ xs ≡ front ++ c ∷ back) × All (λ b. not (eqb b c) ≡ true) back)) [
    | true ↦ λ e. inr ([], xs, ap (λ y. y ∷ xs) (eqb-true x c e), none)
    | false ↦ λ e. inl (All-cons (λ b. not (eqb b c) ≡ true) x xs (ap not e) none)
  ] refl
]

not_passed : (b : Bool) → not b ≡ true → b ≡ false
not_passed true e = cc
not_passed false e = refl

none_passes : (p : ℕ → Bool) (xs : List ℕ) → All (λ b. not (p b) ≡ true) xs → All (λ b. p b ≡ false) xs
none_passes p xs h = λ k d lt. not_passed (p (get_or xs k d)) (h k d lt)

rejoined : (c : ℕ) (xs front back : List ℕ) → xs ≡ front ++ c ∷ back → All (λ b. not (eqb b c) ≡ true) back → xs ≡ before_last (λ b. eqb b c) xs ++ c ∷ after_last (λ b. eqb b c) xs
rejoined c xs front back cut lacking =
    let fronts : before_last (λ b. eqb b c) xs ≡ front = ap (before_last (λ b. eqb b c)) cut ∙ before_last_at (λ b. eqb b c) front c back (eq-eqb c c refl) lacking in
    let backs : after_last (λ b. eqb b c) xs ≡ back = ap (after_last (λ b. eqb b c)) cut ∙ after_last_at (λ b. eqb b c) front c back (eq-eqb c c refl) lacking in
    cut ∙ ap (λ l. l ++ c ∷ back) (sym fronts) ∙ ap (λ l. before_last (λ b. eqb b c) xs ++ c ∷ l) (sym backs)

-- a list of two parts or more is what stands before and behind its last cut
pub two_parts : (c : ℕ) (xs : List ℕ) → leb 2 (length (slice_split (λ b. eqb b c) xs)) ≡ true → xs ≡ before_last (λ b. eqb b c) xs ++ c ∷ after_last (λ b. eqb b c) xs
two_parts c xs two = elim (last_cut c xs) [
  | inl none ↦ absurd (omega (arith, leb-true 2 (length (slice_split (λ b. eqb b c) xs)) two, ap length (slice_split_none (λ b. eqb b c) xs (none_passes (λ b. eqb b c) xs none))))
  | inr cut ↦ rejoined c xs cut.0 cut.1 cut.2 cut.3
]

-- what has something before its last cut is that, the cut, and what stands behind
pub some_before : (c : ℕ) (xs : List ℕ) → 0 < length (before_last (λ b. eqb b c) xs) → xs ≡ before_last (λ b. eqb b c) xs ++ c ∷ after_last (λ b. eqb b c) xs
some_before c xs some = elim (last_cut c xs) [
  | inl none ↦ absurd (omega (arith, ap length (before_last_none (λ b. eqb b c) xs none)))
  | inr cut ↦ rejoined c xs cut.0 cut.1 cut.2 cut.3
]
