use Rattle.go_expr.specs.Views.{names_of}
use Rattle.go_objects.specs.Packages.{package_of}
use Rattle.go_objects.proofs.Filling.{Filled}
use Rattle.go_objects.proofs.table.table.Given as goal

abbrev pub invariant-loop-number : goal.invariant-loop-number
invariant-loop-number l = Filled (package_of l.«package») l.number-items l.number-index (names_of l.known)
