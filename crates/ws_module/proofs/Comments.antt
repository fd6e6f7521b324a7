-- What stands before a comment, byte by byte.
use Rattle.std.proofs.Common.{◌≡◌, ◌<◌, ◌+◌, ℕ, zero, suc, false, List, [], ◌∷◌, ◌++◌, length, take, drop, ap, refl, subst, arith}
use Rattle.std.specs.Prelude.{nat_eq, codes}
use Rattle.std.specs.List.{starts_with}
use Rattle.ws_module.specs.Modules.{uncommented}

-- a byte at which no comment begins stays
stays : (at : ℕ) (line : List ℕ) → at < length line → starts_with nat_eq (drop at line) (codes "//") ≡ false
    → take at line ++ uncommented (drop at line) ≡ take (suc at) line ++ uncommented (drop (suc at) line)
stays at [] lt plain = absurd (omega (arith, lt))
stays zero (b ∷ line) lt plain = rw plain refl
stays (suc at) (b ∷ line) lt plain = ap (λ (rest : List ℕ). b ∷ rest) (stays at line (omega (arith, lt)) plain)

pub kept : (at : ℕ) (line : List ℕ) → at < length line → starts_with nat_eq (drop at line) (codes "//") ≡ false
    → take at line ++ uncommented (drop at line) ≡ take (at + 1) line ++ uncommented (drop (at + 1) line)
kept at line lt plain =
    let next : suc at ≡ at + 1 = omega arith in
    subst (λ (n : ℕ). take at line ++ uncommented (drop at line) ≡ take n line ++ uncommented (drop n line)) next (stays at line lt plain)
