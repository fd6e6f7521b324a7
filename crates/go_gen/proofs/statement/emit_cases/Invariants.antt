use Rattle.std.proofs.Common.{◌≡◌, ◌+◌, ◌++◌, drop}
use Rattle.go_types.specs.Views.{go_type}
use Rattle.go_typed.specs.Views.{as_exprs}
use Rattle.go_gen.specs.Translation.{cases_code, exprs_temps}
use Rattle.go_gen.specs.Views.{places_of}
use Rattle.go_gen.proofs.statement.emit_cases.Given as goal

abbrev pub invariant-loop-i : goal.invariant-loop-i
invariant-loop-i l = record {
  code : l.code ≡ cases_code (places_of l.layout) l.at (go_type l.of) l.behind (as_exprs (drop l.i l.cases)) l.far ++ l.initial.code;
  behind : l.behind + exprs_temps (as_exprs (drop l.i l.cases)) ≡ l.k + exprs_temps (as_exprs l.cases);
}
