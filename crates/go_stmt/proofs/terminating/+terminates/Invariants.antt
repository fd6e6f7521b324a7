use Rattle.std.proofs.Common.{◌≡◌, drop}
use Rattle.go_typed.specs.Views.{clauses_in}
use Rattle.go_typed.specs.Terminating.{clauses_terminate}
use Rattle.go_stmt.proofs.terminating.+terminates.Given as goal

abbrev pub invariant-clauses_terminate-loop-clause : goal.invariant-clauses_terminate-loop-clause
invariant-clauses_terminate-loop-clause l = clauses_terminate (clauses_in (drop l.clause-index l.clauses)) ≡ clauses_terminate (clauses_in l.clauses)
