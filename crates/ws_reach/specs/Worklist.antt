-- Numbers below a size, each noted once, in the order in which they came.
use Rattle.std.specs.Prelude.{◌≡◌, ℕ, ◌+◌, ◌<◌, Bool, true, false, not, List, ◌++◌, ◌⊎◌, length, count_by, slice_index_or}
use Rattle.std.specs.List.{Contains}

pub record Noted : Type 0 where
  pub size : ℕ
  pub found : List ℕ

abbrev pub is_marked : List Bool → ℕ → Bool
is_marked marks q = slice_index_or marks q false

-- what is marked is what was found, and each was found once
pub record AreMarks (marks : List Bool) (found : List ℕ) : Type 0 where
  pub here : (q : ℕ) → Contains found q → is_marked marks q ≡ true
  pub back : (q : ℕ) → is_marked marks q ≡ true → Contains found q
  pub count : length found + count_by not marks ≡ length marks

-- the longer list begins with the shorter
abbrev pub Grows : List ℕ → List ℕ → Type 0
Grows xs ys = (rest : List ℕ) × (ys ≡ xs ++ rest)

-- the new has what the old has, in the same place, and of these numbers each that it lacks
pub record AreAdded (old : Noted) (nodes : List ℕ) (new : Noted) : Type 0 where
  pub size : new.size ≡ old.size
  pub grows : Grows old.found new.found
  pub taken : (q : ℕ) → Contains nodes q → Contains new.found q
  pub from : (q : ℕ) → Contains new.found q → Contains old.found q ⊎ Contains nodes q

-- all are below the size
abbrev pub AllBelow : ℕ → List ℕ → Type 0
AllBelow n nodes = (q : ℕ) → Contains nodes q → q < n
