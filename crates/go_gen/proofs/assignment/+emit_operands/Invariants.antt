use Rattle.std.proofs.Common.{length}
use Rattle.go_gen.proofs.assignment.+emit_operands.Given as goal

abbrev pub decreases-emit_operands : goal.decreases-emit_operands
decreases-emit_operands l = length l.steps.now
