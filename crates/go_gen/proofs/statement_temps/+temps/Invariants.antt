use Rattle.std.proofs.Common.{◌≡◌, ◌+◌, drop}
use Rattle.go_typed.specs.Views.{stmts_in, clauses_in}
use Rattle.go_gen.specs.Translation.{stmts_temps, bodies_temps}
use Rattle.go_gen.proofs.statement_temps.+temps.Given as goal

abbrev pub invariant-stmts_temps-loop-s : goal.invariant-stmts_temps-loop-s
invariant-stmts_temps-loop-s l = l.count + stmts_temps (stmts_in (drop l.s-index l.statements)) ≡ stmts_temps (stmts_in l.statements)

abbrev pub invariant-bodies_temps-loop-clause : goal.invariant-bodies_temps-loop-clause
invariant-bodies_temps-loop-clause l = l.count + bodies_temps (clauses_in (drop l.clause-index l.clauses)) ≡ bodies_temps (clauses_in l.clauses)
