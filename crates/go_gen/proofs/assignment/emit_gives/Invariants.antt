use Rattle.std.proofs.Common.{◌≡◌, ◌+◌, ◌++◌, drop, map}
use Rattle.go_typed.specs.Views.{left_of}
use Rattle.go_gen.specs.Translation.{lefts_temps, values_temps, gives_code}
use Rattle.go_gen.specs.Views.{places_of}
use Rattle.go_gen.proofs.assignment.emit_gives.Given as goal

abbrev pub invariant-loop-i : goal.invariant-loop-i
invariant-loop-i l = record {
  code : l.code ≡ gives_code (places_of l.layout) l.behind (map left_of (drop l.i l.lefts)) (drop l.i l.counts) l.temps ++ l.initial.code;
  behind : l.behind + lefts_temps (map left_of (drop l.i l.lefts)) ≡ l.k + lefts_temps (map left_of l.lefts);
  temp : l.temp ≡ l.temps + values_temps (map left_of (drop l.i l.lefts)) (drop l.i l.counts);
}
