-- What valid texts have.
use Rattle.std.proofs.Common.{◌≡◌, ℕ, ◌≤◌, Bool, true, false, List, length, Option, Some, None, refl, sym, subst, arith}
use Rattle.std.specs.Prelude.{nat_lt, nat_eq, drop, if◌then◌else◌}
use Rattle.std.specs.List.{list_any}
use Rattle.std.proofs.lemmas.Bool.Decides.{nat_tests}
use Rattle.go_text.specs.declared.text.TextError.TheVariants.{TooLong, Nul, Mark}
use Rattle.go_text.specs.declared.edition.Edition.{Edition}
use Rattle.go_text.specs.Editions.{text_limit}
use Rattle.go_text.specs.declared.edition.Edition.TheVariants.{One, Two}
use Rattle.go_text.specs.declared.text.TextError.{TextError}
use Rattle.go_text.specs.Texts.{text_error, holds_mark}

-- a source text is short
pub valid_is_short : (edition : Edition) (text : List ℕ) → text_error edition text ≡ None → length text ≤ text_limit edition
valid_is_short edition text e = by_test (nat_lt (text_limit edition) (length text)) refl
  where
    by_test : (c : Bool) → nat_lt (text_limit edition) (length text) ≡ c → length text ≤ text_limit edition
    by_test true t = let q : Some TooLong ≡ None = grind (arith, nat_tests) in cc
    by_test false f = grind (arith, nat_tests)

-- a text of the first is no longer than the second allows
short_later : (size : ℕ) (c : Bool) → nat_lt 1048576 size ≡ c → c ≡ false → nat_lt 4194304 size ≡ false
short_later size c t f = grind (arith, nat_tests)

valid_later : (text : List ℕ) → text_error One text ≡ None → text_error Two text ≡ None
valid_later text e = by_test (nat_lt 1048576 (length text)) refl
  where
    rest : Option TextError
    rest = if list_any (λ b. nat_eq b 0) text then Some Nul else (if holds_mark (drop 1 text) then Some Mark else None)

    by_test : (c : Bool) → nat_lt 1048576 (length text) ≡ c → text_error Two text ≡ None
    by_test true t = let q : Some TooLong ≡ None = subst (λ z. (if z then Some TooLong else rest) ≡ None) t e in cc
    by_test false t =
        let first : rest ≡ None = subst (λ z. (if z then Some TooLong else rest) ≡ None) t e in
        subst (λ z. (if z then Some TooLong else rest) ≡ None) (sym (short_later (length text) false t refl)) first

-- what may be a source text of an edition may be one of the second
pub valid_in_any : (edition : Edition) (text : List ℕ) → text_error edition text ≡ None → text_error Two text ≡ None
valid_in_any One text e = valid_later text e
valid_in_any Two text e = e
