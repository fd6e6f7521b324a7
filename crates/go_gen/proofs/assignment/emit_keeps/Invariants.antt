use Rattle.std.proofs.Common.{◌≡◌, ◌+◌, ◌++◌, drop, map}
use Rattle.go_typed.specs.Views.{left_of}
use Rattle.go_gen.specs.Translation.{values_temps, keeps_code}
use Rattle.go_gen.proofs.assignment.emit_keeps.Given as goal

abbrev pub invariant-loop-left : goal.invariant-loop-left
invariant-loop-left l = record {
  code : keeps_code (map left_of (drop l.left-index l.lefts)) l.rest l.k ++ l.code ≡ keeps_code (map left_of l.lefts) l.counts l.k ++ l.initial.code;
  temp : l.temp ≡ l.k + values_temps (map left_of (drop l.left-index l.lefts)) l.rest;
}
