use Rattle.std.proofs.Common.{◌≡◌, ◌+◌, ◌++◌, drop}
use Rattle.std.specs.Prelude.{sum}
use Rattle.go_types.specs.Views.{go_type}
use Rattle.go_typed.specs.Views.{clauses_in}
use Rattle.go_gen.specs.Translation.{tests_code, cases_temps}
use Rattle.go_gen.specs.Views.{places_of}
use Rattle.go_gen.proofs.statement.emit_tests.Given as goal

abbrev pub invariant-loop-i : goal.invariant-loop-i
invariant-loop-i l = record {
  code : l.code ≡ tests_code (places_of l.layout) l.at (go_type l.of) l.behind (clauses_in (drop l.i l.clauses)) (drop l.i l.sizes) l.before ++ l.initial.code;
  behind : l.behind + cases_temps (clauses_in (drop l.i l.clauses)) ≡ l.k + cases_temps (clauses_in l.clauses);
  before : l.before + sum (drop l.i l.sizes) ≡ sum l.sizes;
}
