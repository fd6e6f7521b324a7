use Rattle.std.proofs.Common.{◌≡◌, drop}
use Rattle.go_typed.specs.Views.{clauses_in}
use Rattle.go_typed.specs.Terminating.{has_default}
use Rattle.go_stmt.proofs.terminating.has_default.Given as goal

abbrev pub invariant-loop-clause : goal.invariant-loop-clause
invariant-loop-clause l = has_default (clauses_in (drop l.clause-index l.clauses)) ≡ has_default (clauses_in l.clauses)
