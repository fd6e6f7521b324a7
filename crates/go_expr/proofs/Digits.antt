-- Numbers of literals.
use Rattle.std.proofs.Common.{◌≡◌, ℕ, ◌+◌, ◌*◌, ◌<◌, ◌≤◌, ◌^◌, Bool, true, cond, List, [], ◌∷◌, length, get_or, drop, nat_lt, sym, ap, ◌∙◌, subst, add-one, arith}
use Rattle.std.specs.Char.{digit_value, is_digit}
use Rattle.std.specs.List.{filter}
use Rattle.std.specs.Str.Parse.{digits_value_after}
use Rattle.std.proofs.Math.Nat.{le-mul_of_pos_right}
use Rattle.std.proofs.Math.Seq.{drop-cons}
use Rattle.std.proofs.lemmas.Bool.Decides.{nat_tests}

-- more digits make a number no less
grows : (base n : ℕ) (ds : List ℕ) → 0 < base → n ≤ digits_value_after base n ds
grows base n [] some = omega arith
grows base n (d ∷ ds) some = omega (arith, le-mul_of_pos_right {m = base} n some, grows base (n * base + digit_value d) ds some)

abbrev digits_in : ℕ → List ℕ → List ℕ
digits_in base ds = filter (λ b. is_digit b base) ds

below : (a b : ℕ) → a < b → nat_lt a b ≡ true
below a b h = grind (arith, nat_tests)

kept : (base n d : ℕ) (ds : List ℕ) → digit_value d < base → digits_value_after base n (digits_in base (d ∷ ds)) ≡ digits_value_after base (n * base + digit_value d) (digits_in base ds)
kept base n d ds small = ap (λ (b : Bool). digits_value_after base n (cond b (d ∷ digits_in base ds) (digits_in base ds))) (below (digit_value d) base small)

at_digit : (base n : ℕ) (ds : List ℕ) (i : ℕ) → i < length ds → digit_value (get_or ds i 0) < base → digits_value_after base n (digits_in base (drop i ds)) ≡ digits_value_after base (n * base + digit_value (get_or ds i 0)) (digits_in base (drop (i + 1) ds))
at_digit base n ds i within small =
    ap (λ (l : List ℕ). digits_value_after base n (digits_in base l)) (drop-cons ds i 0 within ∙ ap (λ (k : ℕ). get_or ds i 0 ∷ drop k ds) (sym (add-one i)))
    ∙ kept base n (get_or ds i 0) (drop (i + 1) ds) small

far : (v x whole limit : ℕ) → v ≤ x → x ≡ whole → limit ≤ v → ¬ (whole < limit)
far v x whole limit a b c less = omega arith

-- a digit that makes the number too large
pub too_large : (base n : ℕ) (ds : List ℕ) (i whole : ℕ) → 0 < base → i < length ds → digit_value (get_or ds i 0) < base → 2 ^ 127 ≤ n * base + digit_value (get_or ds i 0) → digits_value_after base n (digits_in base (drop i ds)) ≡ whole → ¬ (whole < 2 ^ 127)
too_large base n ds i whole some within small large is =
    far (n * base + digit_value (get_or ds i 0)) _ whole (2 ^ 127) (grows base (n * base + digit_value (get_or ds i 0)) (digits_in base (drop (i + 1) ds)) some)
    (sym (at_digit base n ds i within small) ∙ is) large

halved : (p : ℕ) → ¬ (p < 2 ^ 128) → 2 ^ 127 ≤ p
halved p h = omega arith

more : (p v limit : ℕ) → limit ≤ p → limit ≤ p + v
more p v limit h = omega arith

pub large_product : (n b base v : ℕ) → b ≡ base → ¬ (n * b < 2 ^ 128) → 2 ^ 127 ≤ n * base + v
large_product n b base v is large = more (n * base) v (2 ^ 127) (halved (n * base) (subst (λ (k : ℕ). ¬ (n * k < 2 ^ 128)) is large))

pub large_sum : (n b base m d v : ℕ) → b ≡ base → m ≡ n * b → d ≡ v → ¬ (m + d < 2 ^ 128) → 2 ^ 127 ≤ n * base + v
large_sum n b base m d v is product digit large =
    let sum : m + d ≡ n * base + v = cc in halved (n * base + v) (subst (λ (k : ℕ). ¬ (k < 2 ^ 128)) sum large)
