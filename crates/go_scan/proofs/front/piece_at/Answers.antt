use Rattle.std.proofs.Common.{arith}
use Rattle.std.proofs.lemmas.Grind.{common_steps}
use Rattle.go_scan.proofs.front.piece_at.Goals as goal

pub returns-in-34 : goal.returns-in-34
returns-in-34 c = grind (arith, common_steps)

pub returns-in-96 : goal.returns-in-96
returns-in-96 c = grind (arith, common_steps)

pub returns-in-39 : goal.returns-in-39
returns-in-39 c = grind (arith, common_steps)

pub returns-in-47 : goal.returns-in-47
returns-in-47 c = grind (arith, common_steps)
