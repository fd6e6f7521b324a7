-- What the answers about files say.
use Rattle.std.specs.Prelude.{◌≡◌, ℕ, List, map, Some, Result, Ok, Err}
use Rattle.std.specs.List.{slice_get}
use Rattle.go_text.specs.Faults.{Fault}
use Rattle.go_text.specs.declared.fault.FaultKind.{FaultKind}
use Rattle.go_text.specs.declared.place.Place.{Place}
use Rattle.go_ast.specs.Parse.{Parsed}
use Rattle.go_typed.specs.Views.{typed_of}
use Rattle.go_typed.specs.declared.package.Typed.{Typed}
use Rattle.go_package.specs.Imports.{Importable}
use Rattle.go_check.specs.Checked.{AreTyped, HaveFault}
use Rattle.go_check.specs.declared.error.CheckError.{CheckError}
use Rattle.go_check.specs.declared.error.CheckError.TheVariants as errors

-- a fault by the number of its file, and by its name
pub record IsFaultIn (files : List Parsed) (numbered : ℕ × (Place × FaultKind)) (fault : Fault) : Type 0 where
  pub name : slice_get (map (λ f. f.name) files) numbered.0 ≡ Some fault.file
  pub same : numbered.1 ≡ (fault.place, fault.kind)

-- of the checker; where memory ran out nothing is said
abbrev pub ChecksTo : List ℕ → List Parsed → List Importable → Result Typed CheckError → Type 0
ChecksTo path files imports (Ok t) = AreTyped path files imports (typed_of t)
ChecksTo path files imports (Err (errors.Faulty fault)) = HaveFault path files imports fault
ChecksTo path files imports (Err errors.Memory) = Unit {0}
