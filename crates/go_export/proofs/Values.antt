-- Where the type is known, the text of a value tells the value.
use Rattle.std.proofs.Common.{◌≡◌, ◌≢◌, ℕ, suc, ◌+◌, ◌<◌, ◌≤◌, ◌^◌, ◌%◌, Bool, true, false, ℤ, pos, negsuc, nat_lt, IsTrue, List, [], ◌∷◌, ◌++◌, None, refl, ap, sym, ◌∙◌, subst, arith}
use Rattle.std.specs.Fmt.{decimal, signed_decimal}
use Rattle.std.specs.Str.Parse.{digits_value}
use Rattle.std.proofs.lemmas.Fmt.{decimal_is_IsNumeral_wide, decimal_by_steps_wide}
use Rattle.std.proofs.lemmas.Bool.Decides.{nat_tests}
use Rattle.go_const.specs.Constants.{fits}
use Rattle.go_const.specs.declared.constant.Const.{Const}
use Rattle.go_const.specs.declared.constant.Const.TheVariants.{Integer, Text, Bool as Truth}
use Rattle.go_types.specs.Types.{Type', basic}
use Rattle.go_export.specs.Summaries.{value_text}
use Rattle.go_export.specs.Writable.{kind_of, value_kind, IsSmall, IsValue}

-- ---- integers

-- the text begins with no minus
StartsPlain : List ℕ → Type 0
StartsPlain [] = Unit {0}
StartsPlain (c ∷ ds) = c ≢ 45

plain : (n : ℕ) → n < 10 ^ 64 → StartsPlain (decimal n)
unfolding StartsPlain
plain n small = decimal_by_steps_wide (λ (_ : ℕ) (ds : List ℕ). StartsPlain ds) (λ n h e. omega arith) more n small
  where
    more : (n : ℕ) (ds : List ℕ) → 10 ≤ n → StartsPlain ds → StartsPlain (ds ++ ((48 + n % 10) ∷ []))
    more n [] h p = λ e. omega arith
    more n (c ∷ ds) h p = p

one_decimal : (m n : ℕ) → m < 10 ^ 64 → n < 10 ^ 64 → decimal m ≡ decimal n → m ≡ n
one_decimal m n p q e = sym (decimal_is_IsNumeral_wide m p).1 ∙ ap (digits_value 10) e ∙ (decimal_is_IsNumeral_wide n q).1

no_minus : (m : ℕ) (ds : List ℕ) → m < 10 ^ 64 → decimal m ≡ 45 ∷ ds → ⊥
unfolding StartsPlain
no_minus m ds p e = subst StartsPlain e (plain m p) refl

wide : (n : ℕ) → nat_lt n (2 ^ 127) ≡ true → n + 1 < 10 ^ 64
wide n h =
    let below : n < 2 ^ 127 = grind (arith, nat_tests, h) in
    omega (arith, below)

one_integer : (y z : ℤ) → IsTrue (fits None y) → IsTrue (fits None z) → signed_decimal y ≡ signed_decimal z → y ≡ z
one_integer (pos m) (pos n) p q e = ap pos (one_decimal m n (omega (arith, wide m p)) (omega (arith, wide n q)) e)
one_integer (pos m) (negsuc n) p q e = absurd (no_minus m (decimal (suc n)) (omega (arith, wide m p)) e)
one_integer (negsuc m) (pos n) p q e = absurd (no_minus n (decimal (suc m)) (omega (arith, wide n q)) (sym e))
one_integer (negsuc m) (negsuc n) p q e =
    let digits : decimal (suc m) ≡ decimal (suc n) = cc in
    let one : suc m < 10 ^ 64 = omega (arith, wide m p) in
    let two : suc n < 10 ^ 64 = omega (arith, wide n q) in
    let same : suc m ≡ suc n = one_decimal (suc m) (suc n) one two digits in
    let number : m ≡ n = omega (arith, same) in
    ap negsuc number

-- ---- values

one_truth : (a b : Bool) → value_text (Truth a) ≡ value_text (Truth b) → a ≡ b
one_truth true true e = refl
one_truth false false e = refl
one_truth true false e = cc
one_truth false true e = cc

alike : (c d : Const) → kind_of c ≡ kind_of d → IsSmall c → IsSmall d → value_text c ≡ value_text d → c ≡ d
alike (Integer y) (Integer z) k p q e = ap Integer (one_integer y z p q e)
alike (Text s) (Text t) k p q e = ap Text e
alike (Truth a) (Truth b) k p q e = ap Truth (one_truth a b e)
alike (Integer z) (Text s) k p q e = cc
alike (Integer z) (Truth b) k p q e = cc
alike (Text s) (Integer z) k p q e = cc
alike (Text s) (Truth b) k p q e = cc
alike (Truth b) (Integer z) k p q e = cc
alike (Truth b) (Text s) k p q e = cc

pub one_value : (t : Type') (c d : Const) → IsValue t c → IsValue t d → IsSmall c → IsSmall d → value_text c ≡ value_text d → c ≡ d
one_value t c d p q small tiny e =
    let kinds : p.of ≡ q.of = (let types : basic p.of ≡ basic q.of = sym p.is ∙ q.is in cc) in
    alike c d (sym p.kind ∙ ap value_kind kinds ∙ q.kind) small tiny e
