-- Numbers that are doubled, and numbers that are halved and rounded down.
use Rattle.std.proofs.Common.{◌≡◌, ℕ, zero, suc, ◌+◌, ◌*◌, ◌/◌, ◌^◌, ◌<◌, ◌≤◌, min, inl, inr, ℤ, pos, negsuc, neg_ℤ, ◌+ℤ◌, ◌*ℤ◌, FitsSigned, refl, sym, ap, ◌∙◌, subst, arith, to_z, of_z}
use Rattle.std.proofs.Math.Nat.{add-mul, mul-add, two-pow-succ, div-eq_of_lt, mul-le-mul_left}
use Rattle.std.proofs.Math.Pow.{pow_mono, pow_pos}
use Rattle.std.proofs.lemmas.Bool.{cases_lt}
use Rattle.std.proofs.lemmas.Int.{to_z-of_z}
use Rattle.std.specs.Int.{w128, int_shr}
use Rattle.std.specs.Int.Signed.{mag_shr}

-- ---- to the left

twice : (a k : ℕ) → a * 2 ^ (suc k) ≡ (a + a) * 2 ^ k
twice a k = ap (λ p. a * p) (two-pow-succ k) ∙ mul-add a (2 ^ k) (2 ^ k) ∙ sym (add-mul a a (2 ^ k))

doubled_first : (z : ℤ) (k : ℕ) → z *ℤ pos (2 ^ suc k) ≡ (z +ℤ z) *ℤ pos (2 ^ k)
doubled_first (pos a) k = ap pos (twice a k)
doubled_first (negsuc a) k = ap (λ n. neg_ℤ (pos n)) (twice (suc a) k ∙ ap (λ n. n * 2 ^ k) (let e : suc a + suc a ≡ suc (suc (a + a)) = omega arith in e))

-- the rest of the doublings of the double is that of the number
pub left_step : (z w : ℤ) (k d : ℕ) → k ≡ suc d → w ≡ z +ℤ z → w *ℤ pos (2 ^ d) ≡ z *ℤ pos (2 ^ k)
left_step z w k d e f = ap (λ y. y *ℤ pos (2 ^ d)) f ∙ sym (doubled_first z d) ∙ ap (λ n. z *ℤ pos (2 ^ n)) (sym e)

negated : (n m : ℕ) → n < m → FitsSigned w128 (neg_ℤ (pos m)) → n < 2 ^ 127
negated n zero l f = omega arith
negated n (suc m) l f = omega (arith, f.sfits)

-- what doesn't fit doesn't fit doubled either
fewer : (z : ℤ) (d : ℕ) → FitsSigned w128 (z *ℤ pos (2 ^ d)) → FitsSigned w128 z
fewer (pos a) d f = record { sfits = (let l : a * 1 ≤ a * 2 ^ d = mul-le-mul_left a (pow_pos d) in omega (arith, l, f.sfits)) }
fewer (negsuc a) d f =
    record { sfits = negated a (suc a * 2 ^ d) (let l : suc a * 1 ≤ suc a * 2 ^ d = mul-le-mul_left (suc a) (pow_pos d) in omega (arith, l)) f }

pub left_out : (z : ℤ) (k d : ℕ) → k ≡ suc d → FitsSigned w128 (z *ℤ pos (2 ^ k)) → FitsSigned w128 (z +ℤ z)
left_out z k d e f = fewer (z +ℤ z) d (subst (FitsSigned w128) (sym (left_step z (z +ℤ z) k d e refl)) f)

-- ---- to the right

past : (a k : ℕ) → a < 2 ^ 127 → 127 ≤ k → a / 2 ^ k ≡ 0
past a k h l = div-eq_of_lt (let m : 2 ^ 127 ≤ 2 ^ k = pow_mono l in let e : a < 2 ^ k = omega arith in e)

fits_pos : (a : ℕ) → FitsSigned w128 (pos a) → a < 2 ^ 127
fits_pos a f = f.sfits

fits_negsuc : (a : ℕ) → FitsSigned w128 (negsuc a) → a < 2 ^ 127
fits_negsuc a f = f.sfits

right_past : (z : ℤ) (k : ℕ) → FitsSigned w128 z → 127 ≤ k → int_shr z 127 ≡ int_shr z k
right_past (pos a) k f l = ap pos (past a 127 (fits_pos a f) (let e : 127 ≤ 127 = omega arith in e) ∙ sym (past a k (fits_pos a f) l))
right_past (negsuc a) k f l = ap negsuc (past a 127 (fits_negsuc a f) (let e : 127 ≤ 127 = omega arith in e) ∙ sym (past a k (fits_negsuc a f) l))

right_least : (z : ℤ) (k : ℕ) → FitsSigned w128 z → int_shr z (min k 127) ≡ int_shr z k
right_least z k f = elim (cases_lt k 127) [
  | inl l ↦ ap (int_shr z) (let e : min k 127 ≡ k = omega arith in e)
  | inr l ↦ ap (int_shr z) (let e : min k 127 ≡ 127 = omega arith in e) ∙ right_past z k f l
]

shr_fits : (z : ℤ) (k : ℕ) → FitsSigned w128 z → FitsSigned w128 (int_shr z k)
shr_fits z k f = record { sfits = omega (arith, mag_shr z (2 ^ k), f.sfits) }

-- a shift by 127 bits at most is the shift by all of them
pub right_end : (z w : ℤ) (k m : ℕ) → w ≡ z → FitsSigned w128 z → m ≡ min k 127 → to_z w128 (of_z w128 (int_shr w m)) ≡ int_shr z k
right_end z w k m e f g =
    to_z-of_z w128 (int_shr w m) (shr_fits w m (subst (FitsSigned w128) (sym e) f)) ∙ ap (λ y. int_shr y m) e ∙ ap (int_shr z) g ∙ right_least z k f
