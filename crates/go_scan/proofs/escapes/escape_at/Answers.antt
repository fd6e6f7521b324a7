use Rattle.std.proofs.Common.{arith}
use Rattle.std.proofs.lemmas.Grind.{common_steps}
use Rattle.go_scan.proofs.escapes.escape_at.Goals as goal

pub returns-in_default : goal.returns-in_default
returns-in_default c = grind (arith, common_steps)

pub returns-in-Some : goal.returns-in-Some
returns-in-Some c = grind (arith, common_steps)

pub returns-in-120 : goal.returns-in-120
returns-in-120 c = grind (arith, common_steps)

pub returns-in-117 : goal.returns-in-117
returns-in-117 c = grind (arith, common_steps)

pub returns-in-85 : goal.returns-in-85
returns-in-85 c = grind (arith, common_steps)

pub returns-in_default-first : goal.returns-in_default-first
returns-in_default-first c = grind (arith, common_steps)
