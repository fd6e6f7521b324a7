use Rattle.std.proofs.Common.{arith}
use Rattle.std.proofs.lemmas.Grind.{common_steps}
use Rattle.go_gen.proofs.assignment.+emit_steps.Goals as goal

pub returns-in_ok-offset-in-Field : goal.returns-in_ok-offset-in-Field
returns-in_ok-offset-in-Field t c = grind (arith, common_steps)

pub returns-in_ok-put-in-Element : goal.returns-in_ok-put-in-Element
returns-in_ok-put-in-Element t c = grind (arith, common_steps)
