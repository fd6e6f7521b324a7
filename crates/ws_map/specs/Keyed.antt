-- Entries by the bytes of their keys.
use Rattle.std.specs.Prelude.{◌≡◌, ℕ, List, [], ◌∷◌, Option, None, Some}
use Rattle.std.specs.declared.cmp.Ordering.{Ordering}
use Rattle.std.specs.Ordering.{nat_cmp}
use Rattle.std.specs.Cmp.Lexicographic.{slice_cmp}
use Rattle.std.specs.List.{Contains}
use Rattle.std.specs.BTreeMap.{BTreeMap}
use Rattle.std.specs.FinMap.{FinMap, from_entries}

abbrev pub bytes_cmp : List ℕ → List ℕ → Ordering
bytes_cmp = slice_cmp nat_cmp

abbrev pub keyed : {K X : Type 0} → (K → List ℕ) → List (K × X) → List (List ℕ × X)
keyed bytes [] = []
keyed bytes (e ∷ es) = (bytes e.0, e.1) ∷ keyed bytes es

-- the map of the entries
abbrev pub by_key : {K X : Type 0} → (K → List ℕ) → List (K × X) → FinMap bytes_cmp X
by_key bytes es = from_entries (keyed bytes es)

-- what a map holds, where there is one
abbrev pub contents_of : {K X : Type 0} → (K → List ℕ) → Option (BTreeMap K X) → FinMap bytes_cmp X
contents_of bytes None = by_key bytes []
contents_of bytes (Some map) = by_key bytes map.entries

-- a value stands at some bytes among some entries
abbrev pub StandsAtBytes : {K X : Type 0} → (K → List ℕ) → List (K × X) → List ℕ → X → Type 0
StandsAtBytes {K} bytes es at x = (key : K) × (bytes key ≡ at) × Contains es (key, x)
