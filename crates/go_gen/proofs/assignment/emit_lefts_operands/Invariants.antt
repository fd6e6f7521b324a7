use Rattle.std.proofs.Common.{◌≡◌, ◌+◌, ◌++◌, drop, map}
use Rattle.go_typed.specs.Views.{left_of}
use Rattle.go_gen.specs.Translation.{lefts_temps, lefts_operands}
use Rattle.go_gen.specs.Views.{places_of}
use Rattle.go_gen.proofs.assignment.emit_lefts_operands.Given as goal

abbrev pub invariant-loop-i : goal.invariant-loop-i
invariant-loop-i l = record {
  code : l.code ≡ lefts_operands (places_of l.layout) l.behind (map left_of (drop l.i l.lefts)) ++ l.initial.code;
  behind : l.behind + lefts_temps (map left_of (drop l.i l.lefts)) ≡ l.k + lefts_temps (map left_of l.lefts);
}
