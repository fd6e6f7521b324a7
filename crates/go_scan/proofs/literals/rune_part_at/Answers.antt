use Rattle.std.proofs.Common.{arith}
use Rattle.std.proofs.lemmas.Grind.{common_steps}
use Rattle.go_scan.proofs.literals.rune_part_at.Goals as goal

pub returns-in_default : goal.returns-in_default
returns-in_default c = grind (arith, common_steps)

pub returns-then-first-eq92 : goal.returns-then-first-eq92
returns-then-first-eq92 c = grind (arith, common_steps)

pub returns-then-is_plain_rune : goal.returns-then-is_plain_rune
returns-then-is_plain_rune c = grind (arith, common_steps)
