-- Nodes with roots and ranks.
use Rattle.std.specs.Prelude.{◌≡◌, ℕ, ◌<◌, ◌⊎◌, List, slice_index}

-- both have the same root
abbrev pub AreAlike : List ℕ → ℕ → ℕ → Type 0
AreAlike roots p q = slice_index roots p ≡ slice_index roots q

-- q has a lower rank than p, or the same rank and the same root
abbrev pub LeadsDown : List ℕ → List ℕ → ℕ → ℕ → Type 0
LeadsDown ranks roots p q = (slice_index ranks q < slice_index ranks p) ⊎ ((slice_index ranks q ≡ slice_index ranks p) × AreAlike roots p q)
