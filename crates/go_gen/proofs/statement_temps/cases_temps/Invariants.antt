use Rattle.std.proofs.Common.{◌≡◌, ◌+◌, drop}
use Rattle.go_typed.specs.Views.{clauses_in}
use Rattle.go_gen.specs.Translation.{cases_temps}
use Rattle.go_gen.proofs.statement_temps.cases_temps.Given as goal

abbrev pub invariant-loop-clause : goal.invariant-loop-clause
invariant-loop-clause l = l.count + cases_temps (clauses_in (drop l.clause-index l.clauses)) ≡ cases_temps (clauses_in l.clauses)
