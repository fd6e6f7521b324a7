-- Places from byte to byte.
use Rattle.std.proofs.Common.{◌≡◌, ℕ, ◌+◌, ◌-◌, ◌≤◌, Bool, true, false, cond, List, [], ◌∷◌, ◌++◌, length, take, drop, length-take, length-drop, reverse, refl, sym, ap, ◌∙◌, arith}
use Rattle.std.specs.Prelude.{nat_eq, not}
use Rattle.std.specs.List.{suffix_len, prefix_len}
use Rattle.std.proofs.lemmas.List.{reverse-append, drop-drop}
use Rattle.std.proofs.lemmas.List.Sums.{sum_by-append, count_by-le-length, suffix_len-le-length}
use Rattle.std.proofs.Math.Seq.{take-add}
use Rattle.go_text.specs.Places.{place_after, place_at, mark_size}

-- one more newline, and one more byte else
pub lines_behind : (xs : List ℕ) (b : ℕ) → (place_after (xs ++ b ∷ [])).line ≡ (place_after xs).line + cond (nat_eq b 10) 1 0
lines_behind xs b = omega (arith, sum_by-append (λ x. cond (nat_eq x 10) 1 0) xs (b ∷ []))

pub columns_behind : (xs : List ℕ) (b : ℕ) → (place_after (xs ++ b ∷ [])).column ≡ cond (nat_eq b 10) 1 ((place_after xs).column + 1)
columns_behind xs b = ap (λ ys. 1 + prefix_len (λ x. not (nat_eq x 10)) ys) (reverse-append xs (b ∷ [])) ∙ by_test (nat_eq b 10)
  where
    by_test : (c : Bool) → 1 + cond (not c) (1 + prefix_len (λ x. not (nat_eq x 10)) (reverse xs)) 0 ≡ cond c 1 (1 + suffix_len (λ x. not (nat_eq x 10)) xs + 1)
    by_test true = refl
    by_test false = omega arith

-- places are no further on than there are bytes
pub line_bound : (xs : List ℕ) → (place_after xs).line ≤ 1 + length xs
line_bound xs = omega (arith, count_by-le-length (λ b. nat_eq b 10) xs)

pub column_bound : (xs : List ℕ) → (place_after xs).column ≤ 1 + length xs
column_bound xs = omega (arith, suffix_len-le-length (λ b. not (nat_eq b 10)) xs)

-- so are the places in a text
pub place_at-bound : (text : List ℕ) (offset : ℕ) → ((place_at text offset).line ≤ 1 + length text) × ((place_at text offset).column ≤ 1 + length text)
place_at-bound text offset =
    let before : List ℕ = take (offset - mark_size text) (drop (mark_size text) text) in
    let short : length before ≤ length text = omega (arith, length-take {A = ℕ}, length-drop {A = ℕ}) in
    (omega (arith, line_bound before), omega (arith, column_bound before))

-- the bytes before an offset, and some from it on, are those before the later offset
pub before_more : (text : List ℕ) (at size : ℕ) → mark_size text ≤ at →
    take (at - mark_size text) (drop (mark_size text) text) ++ take size (drop at text) ≡ take (at + size - mark_size text) (drop (mark_size text) text)
before_more text at size le =
    let m : ℕ = mark_size text in
    let back : drop at text ≡ drop (at - m) (drop m text) = ap (λ k. drop k text) (let e : at ≡ m + (at - m) = omega arith in e) ∙ sym (drop-drop (at - m) m text) in
    let further : at - m + size ≡ at + size - m = omega arith in
    ap (λ ys. take (at - m) (drop m text) ++ take size ys) back ∙ sym (take-add (at - m) size (drop m text)) ∙ ap (λ k. take k (drop m text)) further
