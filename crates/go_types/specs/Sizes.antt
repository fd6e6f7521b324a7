-- How large types are.
use Rattle.std.specs.Prelude.{◌≡◌, ℕ, ◌+◌, ◌*◌, min}
use Rattle.go_types.specs.declared.types.Size.{Size}
use Rattle.go_types.specs.Types.{Type', basic, array, slice, struct, named, Fields, no_fields, field}

-- how many cells a value of the type has
abbrev mutual
  pub cells : Type' → ℕ
  cells (basic b) = 1
  cells (array n t) = n * cells t
  cells (slice t) = 1
  cells (struct fields) = cells_of fields
  cells (named path name t) = cells t

  pub cells_of : Fields → ℕ
  cells_of no_fields = 0
  cells_of (field path name t fields) = cells t + cells_of fields

-- how many nodes the type's tree has
abbrev mutual
  pub nodes : Type' → ℕ
  nodes (basic b) = 1
  nodes (array n t) = 1 + nodes t
  nodes (slice t) = 1 + nodes t
  nodes (struct fields) = 1 + nodes_of fields
  nodes (named path name t) = 1 + nodes t

  pub nodes_of : Fields → ℕ
  nodes_of no_fields = 0
  nodes_of (field path name t fields) = nodes t + nodes_of fields

-- a number as it is kept: none above the limit is told from another
abbrev pub kept : ℕ → ℕ
kept n = min n 65537

-- the numbers are those of the type
pub record IsSizeOfType (t : Type') (size : Size) : Type 0 where
  pub cells : size.cells ≡ kept (cells t)
  pub nodes : size.nodes ≡ kept (nodes t)
