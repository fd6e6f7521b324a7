-- Reading digits one by one.
use Rattle.std.proofs.Common.{◌≡◌, ℕ, ◌+◌, ◌-◌, ◌*◌, ◌^◌, ◌<◌, ◌≤◌, zero, suc, Bool, true, false, cond, nat_lt, List, [], ◌∷◌, length, get_or, drop, None, refl, sym, ap, ◌∙◌, arith, length-drop}
use Rattle.std.proofs.lemmas.List.{drop-drop}
use Rattle.std.specs.Char.{digit_value}
use Rattle.std.proofs.lemmas.Bool.Decides.{nat_tests}
use Rattle.std.proofs.lemmas.Nat.{pow-add, mul-le}
use Rattle.go_scan.specs.Numbers.{is_digit_of}
use Rattle.go_scan.specs.Fronts.{digits_at}

-- a text that is too short
pub digits_short : (base k n : ℕ) (xs : List ℕ) → length xs < k → digits_at base k n xs ≡ None
digits_short base zero n xs lt = absurd (omega arith)
digits_short base (suc k) n [] lt = refl
digits_short base (suc k) n (b ∷ bs) lt = by_test (is_digit_of base b) (digits_short base k (n * base + digit_value b) bs (omega arith))
  where
    by_test : (c : Bool) → digits_at base k (n * base + digit_value b) bs ≡ None → cond c (digits_at base k (n * base + digit_value b) bs) None ≡ None
    by_test true ih = ih
    by_test false ih = refl

-- one more digit
first_digit : (base k n : ℕ) (xs : List ℕ) → 1 ≤ k → 1 ≤ length xs → digits_at base k n xs ≡ cond (is_digit_of base (get_or xs 0 0)) (digits_at base (k - 1) (n * base + digit_value (get_or xs 0 0)) (drop 1 xs)) None
first_digit base zero n xs some len = absurd (omega arith)
first_digit base (suc k) n [] some len = absurd (omega arith)
first_digit base (suc k) n (b ∷ bs) some len = ap (λ j. cond (is_digit_of base b) (digits_at base j (n * base + digit_value b) bs) None) (let less : k ≡ suc k - 1 = omega arith in less)

at_drop : (i : ℕ) (xs : List ℕ) → get_or (drop i xs) 0 0 ≡ get_or xs i 0
at_drop zero [] = refl
at_drop zero (x ∷ xs) = refl
at_drop (suc i) [] = refl
at_drop (suc i) (x ∷ xs) = at_drop i xs

pub next_digit : (base k n i : ℕ) (xs : List ℕ) → i < k → i < length xs →
    digits_at base (k - i) n (drop i xs) ≡ cond (is_digit_of base (get_or xs i 0)) (digits_at base (k - (i + 1)) (n * base + digit_value (get_or xs i 0)) (drop (i + 1) xs)) None
next_digit base k n i xs lt len =
    first_digit base (k - i) n (drop i xs) (omega arith) (omega (arith, length-drop i xs))
    ∙ ap (λ b. cond (is_digit_of base b) (digits_at base (k - i - 1) (n * base + digit_value b) (drop 1 (drop i xs))) None) (at_drop i xs)
    ∙ ap (λ j. cond (is_digit_of base (get_or xs i 0)) (digits_at base j (n * base + digit_value (get_or xs i 0)) (drop 1 (drop i xs))) None) (let less : k - i - 1 ≡ k - (i + 1) = omega arith in less)
    ∙ ap (λ ys. cond (is_digit_of base (get_or xs i 0)) (digits_at base (k - (i + 1)) (n * base + digit_value (get_or xs i 0)) ys) None) (drop-drop 1 i xs)

pub digit_read : (base k n i : ℕ) (xs : List ℕ) → i < k → i < length xs → digit_value (get_or xs i 0) < base →
    digits_at base (k - (i + 1)) (n * base + digit_value (get_or xs i 0)) (drop (i + 1) xs) ≡ digits_at base (k - i) n (drop i xs)
digit_read base k n i xs lt len digit =
    let yes : is_digit_of base (get_or xs i 0) ≡ true = grind (arith, nat_tests) in
    sym (next_digit base k n i xs lt len ∙ ap (λ c. cond c (digits_at base (k - (i + 1)) (n * base + digit_value (get_or xs i 0)) (drop (i + 1) xs)) None) yes)

pub digit_missed : (base k n i : ℕ) (xs : List ℕ) → i < k → i < length xs → (digit_value (get_or xs i 0) < base → ⊥) → None ≡ digits_at base (k - i) n (drop i xs)
digit_missed base k n i xs lt len never =
    sym (next_digit base k n i xs lt len ∙ ap (λ c. cond c (digits_at base (k - (i + 1)) (n * base + digit_value (get_or xs i 0)) (drop (i + 1) xs)) None) (never_digit (nat_lt (digit_value (get_or xs i 0)) base) refl))
  where
    never_digit : (c : Bool) → nat_lt (digit_value (get_or xs i 0)) base ≡ c → c ≡ false
    never_digit false e = refl
    never_digit true e = absurd (never (grind (arith, nat_tests)))

-- no number of eight digits is too large
pub power_small : (i : ℕ) → i ≤ 8 → 16 ^ i ≤ 4294967296
power_small zero le = omega arith
power_small (suc zero) le = omega arith
power_small (suc (suc zero)) le = omega arith
power_small (suc (suc (suc zero))) le = omega arith
power_small (suc (suc (suc (suc zero)))) le = omega arith
power_small (suc (suc (suc (suc (suc zero))))) le = omega arith
power_small (suc (suc (suc (suc (suc (suc zero)))))) le = omega arith
power_small (suc (suc (suc (suc (suc (suc (suc zero))))))) le = omega arith
power_small (suc (suc (suc (suc (suc (suc (suc (suc zero)))))))) le = omega arith
power_small (suc (suc (suc (suc (suc (suc (suc (suc (suc i))))))))) le = absurd (omega arith)

pub digit_bound : (n base d i : ℕ) → n < 16 ^ i → base ≤ 16 → d < base → n * base + d < 16 ^ (i + 1)
digit_bound n base d i lt le small =
    let most = mul-le n base n 16 (let same : n ≤ n = omega arith in same) le in
    let more : 16 ^ (i + 1) ≡ 16 ^ i * 16 = pow-add 16 i 1 in
    omega (arith, most, more)

pub product_bound : (n base i : ℕ) → n < 16 ^ i → base ≤ 16 → i ≤ 8 → n * base ≤ 68719476736
product_bound n base i lt le few =
    let most = mul-le n base n 16 (let same : n ≤ n = omega arith in same) le in
    omega (arith, most, power_small i few)
