-- Numbers, and what begins as they do, at the front of a text.
use Rattle.std.proofs.Common.{◌≡◌, ℕ, ◌+◌, Bool, true, false, cond, ◌||◌, ◌&&◌, nat_eq, List, [], ◌∷◌, ◌++◌, length, take, refl, sym, ap, ◌∙◌, arith, one-add}
use Rattle.std.specs.List.{list_all, prefix_len}
use Rattle.std.specs.Char.{is_ascii_digit}
use Rattle.std.proofs.lemmas.Bool.Decides.{nat_tests}
use Rattle.go_scan.specs.declared.shape.Shape.{Shape}
use Rattle.go_scan.specs.declared.shape.Shape.TheVariants.{BadNumber, Word}
use Rattle.go_scan.specs.declared.token.TokenKind.TheVariants as kinds
use Rattle.go_scan.specs.Numbers.{begins_number, is_in_run, is_run, is_integer_literal}
use Rattle.go_scan.specs.Lex.{Spells, is_white_space}
use Rattle.go_scan.specs.Fronts.{run_shape, run_at, may_begin_word}
use Rattle.go_scan.proofs.Runs.{and_left, and_right, run_le, run_all, run_some, Good, Fits, take_front}

-- what begins as a number goes on so
pub begins_on : (xs rest : List ℕ) → begins_number xs ≡ true → begins_number (xs ++ rest) ≡ true
begins_on [] rest e = cc
begins_on (b ∷ []) [] e = e
begins_on (b ∷ []) (c ∷ rest) e = ap (λ x. x || (nat_eq b 46 && is_ascii_digit c)) e
begins_on (b ∷ c ∷ bs) rest e = e

-- its first byte is a digit or a dot
number_first : (b : ℕ) (bs : List ℕ) → begins_number (b ∷ bs) ≡ true → (is_ascii_digit b || nat_eq b 46) ≡ true
number_first b [] e = rw e refl
number_first b (c ∷ bs) e = by_digit (is_ascii_digit b) (nat_eq b 46) (is_ascii_digit c) e
  where
    by_digit : (d p q : Bool) → (d || (p && q)) ≡ true → (d || p) ≡ true
    by_digit true p q e = refl
    by_digit false true q e = refl
    by_digit false false q e = cc

pub number_no_word : (b : ℕ) (bs : List ℕ) → begins_number (b ∷ bs) ≡ true → may_begin_word b ≡ false
number_no_word b bs e = by_first b (number_first b bs e)
  where
    by_first : (b : ℕ) → (is_ascii_digit b || nat_eq b 46) ≡ true → may_begin_word b ≡ false
    by_first b e = grind (arith, nat_tests)

pub number_no_blank : (b : ℕ) (bs : List ℕ) → begins_number (b ∷ bs) ≡ true → is_white_space b ≡ false
number_no_blank b bs e = by_first b (number_first b bs e)
  where
    by_first : (b : ℕ) → (is_ascii_digit b || nat_eq b 46) ≡ true → is_white_space b ≡ false
    by_first b e = grind (arith, nat_tests)

pub digit_in_run : (b : ℕ) → is_ascii_digit b ≡ true → is_in_run b ≡ true
digit_in_run b e = grind (arith, nat_tests)

first_in_run : (b : ℕ) (bs : List ℕ) → begins_number (b ∷ bs) ≡ true → is_in_run b ≡ true
first_in_run b bs e = by_first b (number_first b bs e)
  where
    by_first : (b : ℕ) → (is_ascii_digit b || nat_eq b 46) ≡ true → is_in_run b ≡ true
    by_first b e = grind (arith, nat_tests)

run_begins : (xs : List ℕ) → begins_number xs ≡ true → begins_number (take (prefix_len is_in_run xs) xs) ≡ true
run_begins [] e = cc
run_begins (b ∷ []) e = ap (λ x. begins_number (take (cond x 1 0) (b ∷ []))) (first_in_run b [] e) ∙ e
run_begins (b ∷ c ∷ bs) e =
    ap (λ x. begins_number (take (cond x (1 + prefix_len is_in_run (c ∷ bs)) 0) (b ∷ c ∷ bs))) (first_in_run b (c ∷ bs) e)
    ∙ ap (λ k. begins_number (take k (b ∷ c ∷ bs))) (one-add (prefix_len is_in_run (c ∷ bs)))
    ∙ by_second (is_in_run c) refl
  where
    alone : (d p q : Bool) → (d || (p && q)) ≡ true → q ≡ false → d ≡ true
    alone true p q e f = refl
    alone false true q e f = cc
    alone false false q e f = cc

    no_digit : is_in_run c ≡ false → is_ascii_digit c ≡ false
    no_digit f = by_digit (is_ascii_digit c) refl
      where
        by_digit : (d : Bool) → is_ascii_digit c ≡ d → d ≡ false
        by_digit false t = refl
        by_digit true t = let both : false ≡ true = sym f ∙ digit_in_run c t in cc

    by_second : (d : Bool) → is_in_run c ≡ d → begins_number (b ∷ take (cond d (1 + prefix_len is_in_run bs) 0) (c ∷ bs)) ≡ true
    by_second true t = ap (λ k. begins_number (b ∷ take k (c ∷ bs))) (one-add (prefix_len is_in_run bs)) ∙ e
    by_second false t = alone (is_ascii_digit b) (nat_eq b 46) (is_ascii_digit c) e (no_digit t)

-- a run is an integer literal or a bad number
run_spells : (run : List ℕ) → is_run run ≡ true → Spells (run_shape run) run
run_spells run e = by_test (is_integer_literal run) refl
  where
    by_test : (c : Bool) → is_integer_literal run ≡ c → Spells (cond c (Word kinds.Integer) BadNumber) run
    by_test true i = (e, i)
    by_test false i = (e, i)

pub run_good : (b : ℕ) (bs : List ℕ) → begins_number (b ∷ bs) ≡ true → Good (b ∷ bs) (run_at (b ∷ bs))
run_good b bs e =
    let text : List ℕ = b ∷ bs in
    let all = run_all is_in_run text in
    let run : is_run (take (prefix_len is_in_run text) text) ≡ true = ap (λ x. x && list_all is_in_run (take (prefix_len is_in_run text) text)) (run_begins text e) ∙ all.0 in
    (run_spells (take (prefix_len is_in_run text) text) run, run_some is_in_run b bs (first_in_run b bs e), all.1)

pub run_fits : (s : Shape) (xs rest : List ℕ) → is_run xs ≡ true → run_shape xs ≡ s → Fits s (length xs) (run_at (xs ++ rest))
run_fits s xs rest e shape =
    let le = run_le is_in_run xs rest (and_right (begins_number xs) (list_all is_in_run xs) e) in
    (le, λ size. ap run_shape (take_front xs rest (xs ++ rest) (prefix_len is_in_run (xs ++ rest)) refl size) ∙ shape)

pub run_begin : (xs : List ℕ) → is_run xs ≡ true → begins_number xs ≡ true
run_begin xs e = and_left (begins_number xs) (list_all is_in_run xs) e
