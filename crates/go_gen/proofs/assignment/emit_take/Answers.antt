use Rattle.std.proofs.Common.{arith}
use Rattle.std.proofs.lemmas.Grind.{common_steps}
use Rattle.go_gen.proofs.assignment.emit_take.Goals as goal

pub returns-in-Blank : goal.returns-in-Blank
returns-in-Blank c = grind (arith, common_steps)

pub returns-in_ok-put-in-Local : goal.returns-in_ok-put-in-Local
returns-in_ok-put-in-Local c = grind (arith, common_steps)

pub returns-in_ok-put-in-Global : goal.returns-in_ok-put-in-Global
returns-in_ok-put-in-Global c = grind (arith, common_steps)
