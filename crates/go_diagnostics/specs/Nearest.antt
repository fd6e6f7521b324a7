-- The nearest of some names to one that nothing declares.
use Rattle.std.specs.Prelude.{◌≡◌, ℕ, ◌+◌, ◌/◌, ◌<◌, ◌≤◌, ◌⊎◌, Bool, true, not, ◌&&◌, nat_eq, nat_le, List, length, bytes_eq, Option, Some, None}
use Rattle.std.specs.List.{All, Contains}
use Rattle.strsim.specs.Edits.{levenshtein_row}
use Rattle.go_diagnostics.specs.Packages.{PackageNames}

-- how many bytes are inserted, left out or replaced at least between two names
abbrev pub distance : List ℕ → List ℕ → ℕ
distance a b = levenshtein_row nat_eq a b (length b)

-- a longer name isn't compared with others
abbrev pub longest : ℕ
longest = 64

-- how many edits may lie between a name and one that is meant: a third of its length
abbrev pub most_edits : List ℕ → ℕ
most_edits name = (length name + 1) / 3

-- another name, of about the same length
abbrev pub is_candidate : List ℕ → List ℕ → Bool
is_candidate unknown name =
    not (bytes_eq name unknown)
    && (nat_le (length name) (length unknown + most_edits unknown) && nat_le (length unknown) (length name + most_edits unknown))

-- no candidate among the names has fewer edits than these
abbrev pub NoneNearer : List ℕ → ℕ → PackageNames → Type 0
NoneNearer unknown edits names = All (λ name. is_candidate unknown name ≡ true → edits ≤ distance unknown name) names

-- the candidate that the fewest edits lead to, where they are few enough
pub record IsNearestOne (unknown : List ℕ) (names : PackageNames) (name : List ℕ) : Type 0 where
  pub short : length unknown ≤ longest
  pub one_of_them : Contains names name
  pub candidate : is_candidate unknown name ≡ true
  pub near : distance unknown name ≤ most_edits unknown
  pub nearest : NoneNearer unknown (distance unknown name) names

-- or none is near
abbrev pub IsNearest : List ℕ → PackageNames → Option (List ℕ) → Type 0
IsNearest unknown names None = (longest < length unknown) ⊎ NoneNearer unknown (most_edits unknown + 1) names
IsNearest unknown names (Some name) = IsNearestOne unknown names name
