-- Numbers that differ by a multiple.
use Rattle.std.proofs.Common.{◌≡◌, ℕ, ◌+◌, ◌-◌, ◌*◌, ◌/◌, ◌%◌, ◌^◌, ◌<◌, ◌≤◌, ℤ, pos, ◌+ℤ◌, refl, sym, ◌∙◌, subst, arith, inl, inr}
use Rattle.std.specs.Int.{w64, w128, int_rem_euclid, int_wrap, cast_signed}
use Rattle.std.specs.Prelude.{unsigned_abs}
use Rattle.std.proofs.lemmas.Bool.{cases_lt}
use Rattle.std.proofs.lemmas.Int.{int_rem_euclid_is, ints}
use Rattle.std.proofs.lemmas.Nat.{div-add-mod', mod_below}
use Rattle.std.proofs.Math.Nat.{mul-le-mul_left}
use borrow.Author.Differences.{up, down}

-- the two differ by a multiple of n
pub record Near (n : ℕ) (a b : ℤ) : Type 0 where
  pub over : ℕ
  pub under : ℕ
  pub same : a +ℤ pos (over * n) ≡ b +ℤ pos (under * n)

-- and so they have the same remainder
pub near_rem : (n : ℕ) (a b : ℤ) → 0 < n → Near n a b → int_rem_euclid a (pos n) ≡ int_rem_euclid b (pos n)
near_rem n a b some h =
    let e = h.same in
    let t = down a + down b in
    let far : t * 1 ≤ t * n = mul-le-mul_left t some in
    let m = up a + (h.over + t) * n - down a in
    int_rem_euclid_is a (pos n) n (h.over + t) m some refl (omega (arith, ints))
    ∙ sym (int_rem_euclid_is b (pos n) n (h.under + t) m some refl (omega (arith, ints)))

pub near_add : (n : ℕ) (a b s : ℤ) → Near n a b → Near n (a +ℤ s) (b +ℤ s)
near_add n a b s h = let e = h.same in record { over = h.over; under = h.under; same = omega (arith, ints) }

-- a multiple of a multiple is one
pub near_less : (n t : ℕ) (a b : ℤ) → Near (t * n) a b → Near n a b
near_less n t a b h = record { over = h.over * t; under = h.under * t; same = (let e = h.same in omega (arith, ints)) }

-- the signed number of 128 bits
read : (n : ℕ) → n < 2 ^ 128 → Near (2 ^ 128) (cast_signed w128 n) (pos n)
read n h = elim (cases_lt n (2 ^ 127)) [
  | inl low ↦ record { over = 0; under = 0; same = omega (arith, ints) }
  | inr high ↦ record { over = 1; under = 0; same = grind (arith, ints) }
]

near_then : (n : ℕ) (a b c : ℤ) → Near n a b → Near n b c → Near n a c
near_then n a b c g h = let e = g.same in let f = h.same in record { over = g.over + h.over; under = g.under + h.under; same = omega (arith, ints) }

-- a number and its remainder
near_remainder : (n : ℕ) (z : ℤ) → 0 < n → Near n (pos (unsigned_abs (int_rem_euclid z (pos n)))) z
near_remainder n z some =
    let t = down z in
    let far : t * 1 ≤ t * n = mul-le-mul_left t some in
    let m = up z + t * n - down z in
    let is : int_rem_euclid z (pos n) ≡ pos (m % n) = int_rem_euclid_is z (pos n) n t m some refl (omega (arith, ints)) in
    let split = div-add-mod' m n in
    subst (λ r. Near n (pos (unsigned_abs r)) z) (sym is) (record { over = m / n; under = t; same = omega (arith, ints) })

-- what is left of a number in 128 bits
pub near_wrap : (z : ℤ) → Near (2 ^ 128) (int_wrap w128 z) z
unfolding int_wrap
near_wrap z =
    let some : 0 < 2 ^ 128 = omega arith in
    let t = down z in
    let far : t * 1 ≤ t * 2 ^ 128 = mul-le-mul_left t some in
    let m = up z + t * 2 ^ 128 - down z in
    let is : int_rem_euclid z (pos (2 ^ 128)) ≡ pos (m % 2 ^ 128) = int_rem_euclid_is z (pos (2 ^ 128)) (2 ^ 128) t m some refl (omega (arith, ints)) in
    let small : unsigned_abs (int_rem_euclid z (pos (2 ^ 128))) < 2 ^ 128 = subst (λ r. unsigned_abs r < 2 ^ 128) (sym is) (mod_below m (2 ^ 128) some) in
    near_then (2 ^ 128) _ (pos (unsigned_abs (int_rem_euclid z (pos (2 ^ 128))))) z (read (unsigned_abs (int_rem_euclid z (pos (2 ^ 128)))) small) (near_remainder (2 ^ 128) z some)

-- the signed number of 64 bits
read_64 : (n : ℕ) → n < 2 ^ 64 → Near (2 ^ 64) (cast_signed w64 n) (pos n)
read_64 n h = elim (cases_lt n (2 ^ 63)) [
  | inl low ↦ record { over = 0; under = 0; same = omega (arith, ints) }
  | inr high ↦ record { over = 1; under = 0; same = grind (arith, ints) }
]

-- what is left of a number in 64 bits
pub near_wrap_64 : (z : ℤ) → Near (2 ^ 64) (int_wrap w64 z) z
unfolding int_wrap
near_wrap_64 z =
    let some : 0 < 2 ^ 64 = omega arith in
    let t = down z in
    let far : t * 1 ≤ t * 2 ^ 64 = mul-le-mul_left t some in
    let m = up z + t * 2 ^ 64 - down z in
    let is : int_rem_euclid z (pos (2 ^ 64)) ≡ pos (m % 2 ^ 64) = int_rem_euclid_is z (pos (2 ^ 64)) (2 ^ 64) t m some refl (omega (arith, ints)) in
    let small : unsigned_abs (int_rem_euclid z (pos (2 ^ 64))) < 2 ^ 64 = subst (λ r. unsigned_abs r < 2 ^ 64) (sym is) (mod_below m (2 ^ 64) some) in
    near_then (2 ^ 64) _ (pos (unsigned_abs (int_rem_euclid z (pos (2 ^ 64))))) z (read_64 (unsigned_abs (int_rem_euclid z (pos (2 ^ 64)))) small) (near_remainder (2 ^ 64) z some)

pub record Remainder (n : ℕ) (z : ℤ) : Type 0 where
  pub rest : ℕ
  pub less : rest < n
  pub is : int_rem_euclid z (pos n) ≡ pos rest

-- a remainder is below the divisor
pub remainder_of : (n : ℕ) (z : ℤ) → 0 < n → Remainder n z
remainder_of n z some =
    let t = down z in
    let far : t * 1 ≤ t * n = mul-le-mul_left t some in
    let m = up z + t * n - down z in
    record { rest = m % n; less = mod_below m n some; is = int_rem_euclid_is z (pos n) n t m some refl (omega (arith, ints)) }
