use Rattle.std.proofs.Common.{◌≡◌, ◌+◌, ◌++◌, drop}
use Rattle.go_types.specs.Views.{go_type}
use Rattle.go_typed.specs.Views.{as_exprs, parts_in}
use Rattle.go_gen.specs.Translation.{exprs_code, parts_code, exprs_temps, parts_temps}
use Rattle.go_gen.specs.Views.{places_of}
use Rattle.go_gen.proofs.expression.+expressions.Given as goal

abbrev pub invariant-emit_exprs-loop-i : goal.invariant-emit_exprs-loop-i
invariant-emit_exprs-loop-i l = record {
  code : l.code ≡ exprs_code (places_of l.layout) l.behind (as_exprs (drop l.i l.es)) ++ l.initial.code;
  behind : l.behind + exprs_temps (as_exprs (drop l.i l.es)) ≡ l.k + exprs_temps (as_exprs l.es);
}

abbrev pub invariant-emit_parts-loop-i : goal.invariant-emit_parts-loop-i
invariant-emit_parts-loop-i l = record {
  code : l.code ≡ parts_code (places_of l.layout) (go_type l.of) l.at l.behind (parts_in (drop l.i l.parts)) ++ l.initial.code;
  behind : l.behind + parts_temps (parts_in (drop l.i l.parts)) ≡ l.k + parts_temps (parts_in l.parts);
}
