use Rattle.std.proofs.Common.{length}
use Rattle.go_gen.proofs.assignment.+emit_steps.Given as goal

abbrev pub decreases-emit_steps : goal.decreases-emit_steps
decreases-emit_steps l = length l.steps.now
