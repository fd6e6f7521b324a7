use Rattle.std.proofs.Common.{◌≡◌, ◌+◌, drop, map}
use Rattle.go_typed.specs.Views.{left_of}
use Rattle.go_gen.specs.Translation.{values_temps}
use Rattle.go_gen.proofs.assignment.values_temps.Given as goal

abbrev pub invariant-loop-left : goal.invariant-loop-left
invariant-loop-left l = l.total + values_temps (map left_of (drop l.left-index l.lefts)) l.rest ≡ values_temps (map left_of l.lefts) l.counts
