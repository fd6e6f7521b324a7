use Rattle.std.proofs.Common.{◌≡◌, ◌∷◌, take, map, length}
use Rattle.std.specs.Arc.{arc_value}
use Rattle.go_check.specs.Names.{importable_by}
use Rattle.go_package.specs.Views.{importables_of}
use Rattle.go_check.specs.Checked.{fmt}
use Rattle.go_check.proofs.check.importables.Given as goal

abbrev pub invariant-loop-summary : goal.invariant-loop-summary
invariant-loop-summary l = importables_of l.all.items ≡ fmt ∷ map importable_by (map arc_value (take (length l.yielded) l.imports))
