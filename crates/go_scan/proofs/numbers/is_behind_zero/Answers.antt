use Rattle.std.proofs.Common.{arith}
use Rattle.std.proofs.lemmas.Grind.{common_steps}
use Rattle.go_scan.proofs.numbers.is_behind_zero.Goals as goal

pub returns-in-empty : goal.returns-in-empty
returns-in-empty c = grind (arith, common_steps)

pub returns-then-is_either : goal.returns-then-is_either
returns-then-is_either c = grind (arith, common_steps)

pub returns-then-is_either-2 : goal.returns-then-is_either-2
returns-then-is_either-2 c = grind (arith, common_steps)

pub returns-then-is_either-3 : goal.returns-then-is_either-3
returns-then-is_either-3 c = grind (arith, common_steps)

pub returns-else-is_either-3 : goal.returns-else-is_either-3
returns-else-is_either-3 c = grind (arith, common_steps)
