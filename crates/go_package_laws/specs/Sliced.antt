-- Packages with slices.
use Rattle.std.specs.Prelude.{◌≡◌}
use Rattle.std.specs.List.{Contains}
use Rattle.go_types.specs.Types.{Type', slice}
use Rattle.go_typed.specs.Trees.{Package, Variable}

-- a variable of the package is a slice
abbrev pub HasSlice : Package → Type 0
HasSlice p = (v : Variable) × (element : Type') × Contains p.variables v × (v.of ≡ slice element)
