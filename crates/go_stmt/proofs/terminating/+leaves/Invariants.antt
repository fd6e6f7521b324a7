use Rattle.std.proofs.Common.{◌≡◌, drop}
use Rattle.go_typed.specs.Views.{stmts_in}
use Rattle.go_typed.specs.Terminating.{breaks_any}
use Rattle.go_stmt.proofs.terminating.+leaves.Given as goal

abbrev pub invariant-breaks_any-loop-s : goal.invariant-breaks_any-loop-s
invariant-breaks_any-loop-s l = breaks_any (stmts_in (drop l.s-index l.statements)) ≡ breaks_any (stmts_in l.statements)
