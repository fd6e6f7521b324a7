use Rattle.std.proofs.Common.{arith}
use Rattle.std.proofs.lemmas.Grind.{common_steps}
use Rattle.go_gen.proofs.assignment.emit_give.Goals as goal

pub returns-in_ok-emit_address-in-Local : goal.returns-in_ok-emit_address-in-Local
returns-in_ok-emit_address-in-Local c = grind (arith, common_steps)

pub returns-in_ok-emit_address-in-Global : goal.returns-in_ok-emit_address-in-Global
returns-in_ok-emit_address-in-Global c = grind (arith, common_steps)
