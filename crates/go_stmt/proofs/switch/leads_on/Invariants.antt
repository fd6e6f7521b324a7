use Rattle.std.proofs.Common.{◌≡◌, drop}
use Rattle.go_stmt.specs.Statements.{leads_on}
use Rattle.go_stmt.specs.Views.{trees_in}
use Rattle.go_stmt.proofs.switch.leads_on.Given as goal

abbrev pub invariant-loop-i : goal.invariant-loop-i
invariant-loop-i l = leads_on (trees_in (drop l.i l.statements)) ≡ leads_on (trees_in l.statements)
