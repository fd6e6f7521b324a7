-- Declarations as a graph: an edge leads from a declaration to each that its form names.
use Rattle.std.specs.Prelude.{◌≡◌, ℕ, zero, suc, ◌<◌, List, Some}
use Rattle.std.specs.List.{slice_get}
use Rattle.ws_reach.specs.Reach.{Edge, Reaches}

-- a declaration that it leads to names it
abbrev pub DependsOnItself : List (List ℕ) → ℕ → Type 0
DependsOnItself rows i = (user : ℕ) × Reaches (Edge rows) i user × Edge rows user i

-- each walk from it has fewer edges than that
abbrev pub GroundedIn : List (List ℕ) → ℕ → ℕ → Type 0
GroundedIn rows zero i = ⊥
GroundedIn rows (suc n) i = (j : ℕ) → Edge rows i j → GroundedIn rows n j

-- no walk from it goes on for ever: it leads to none that depends on itself
abbrev pub Grounded : List (List ℕ) → ℕ → Type 0
Grounded rows i = (n : ℕ) × GroundedIn rows n i

-- each stands behind all that it needs
abbrev pub Ordered : List (List ℕ) → List ℕ → Type 0
Ordered rows order = (k i j : ℕ) → slice_get order k ≡ Some i → Edge rows i j → (m : ℕ) × (m < k) × (slice_get order m ≡ Some j)

-- none stands there twice
abbrev pub Once : List ℕ → Type 0
Once order = (k m i : ℕ) → slice_get order k ≡ Some i → slice_get order m ≡ Some i → k ≡ m
