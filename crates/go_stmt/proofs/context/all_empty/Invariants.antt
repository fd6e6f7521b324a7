use Rattle.std.proofs.Common.{◌≡◌, drop}
use Rattle.go_stmt.specs.Statements.{all_empty}
use Rattle.go_stmt.specs.Views.{trees_in}
use Rattle.go_stmt.proofs.context.all_empty.Given as goal

abbrev pub invariant-loop-s : goal.invariant-loop-s
invariant-loop-s l = all_empty (trees_in (drop l.s-index l.statements)) ≡ all_empty (trees_in l.statements)
