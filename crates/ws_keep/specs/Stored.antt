-- What a store holds.
use Rattle.std.specs.Prelude.{◌≡◌, ℕ, List, Option, None, Some}

-- a store holds these bytes; where nothing is known, nothing is claimed
abbrev pub StoreHolds : Option (List ℕ) → List ℕ → Type 0
StoreHolds None bytes = Unit {0}
StoreHolds (Some its) bytes = its ≡ bytes

-- a store that held something holds these bytes now
abbrev pub StoreBecomes : Option (List ℕ) → Option (List ℕ) → List ℕ → Type 0
StoreBecomes None new bytes = Unit {0}
StoreBecomes (Some old) None bytes = ⊥
StoreBecomes (Some old) (Some new) bytes = new ≡ bytes
