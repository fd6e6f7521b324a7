use Rattle.std.proofs.Common.{◌≡◌, drop}
use Rattle.go_typed.specs.Views.{clauses_in}
use Rattle.go_typed.specs.Terminating.{breaks_clause}
use Rattle.go_stmt.proofs.terminating.breaks_clause.Given as goal

abbrev pub invariant-loop-clause : goal.invariant-loop-clause
invariant-loop-clause l = breaks_clause (clauses_in (drop l.clause-index l.clauses)) ≡ breaks_clause (clauses_in l.clauses)
