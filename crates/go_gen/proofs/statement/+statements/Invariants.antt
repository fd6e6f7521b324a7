use Rattle.std.proofs.Common.{◌≡◌, ◌+◌, ◌++◌, drop, map, length, reverse}
use Rattle.go_typed.specs.Views.{stmts_in, clauses_in}
use Rattle.go_gen.specs.Translation.{stmts_code, stmts_temps, bodies_code, bodies_temps, concat_code}
use Rattle.go_gen.specs.Views.{places_of}
use Rattle.go_gen.proofs.statement.+statements.Given as goal

abbrev pub invariant-emit_stmts-loop-i : goal.invariant-emit_stmts-loop-i
invariant-emit_stmts-loop-i l = record {
  code : l.code ≡ stmts_code (places_of l.layout) l.behind (stmts_in (drop l.i l.statements)) l.b l.c ++ l.initial.code;
  behind : l.behind + stmts_temps (stmts_in (drop l.i l.statements)) ≡ l.k + stmts_temps (stmts_in l.statements);
}

abbrev pub invariant-emit_bodies-loop-i : goal.invariant-emit_bodies-loop-i
invariant-emit_bodies-loop-i l = record {
  code : l.code ≡ concat_code (bodies_code (places_of l.layout) l.behind (clauses_in (drop l.i l.clauses)) l.c) ++ l.initial.code;
  behind : l.behind + bodies_temps (clauses_in (drop l.i l.clauses)) ≡ l.k + bodies_temps (clauses_in l.clauses);
  sizes : reverse l.sizes.items ≡ map length (bodies_code (places_of l.layout) l.behind (clauses_in (drop l.i l.clauses)) l.c);
}
