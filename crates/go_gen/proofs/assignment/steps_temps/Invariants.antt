use Rattle.std.proofs.Common.{◌≡◌, ◌+◌, drop}
use Rattle.go_typed.specs.Views.{steps_in}
use Rattle.go_gen.specs.Translation.{steps_temps}
use Rattle.go_gen.proofs.assignment.steps_temps.Given as goal

abbrev pub invariant-loop-step : goal.invariant-loop-step
invariant-loop-step l = l.count + steps_temps (steps_in (drop l.step-index l.steps)) ≡ steps_temps (steps_in l.steps)
