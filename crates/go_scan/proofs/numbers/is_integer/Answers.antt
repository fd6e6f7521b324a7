use Rattle.std.proofs.Common.{arith}
use Rattle.std.proofs.lemmas.Grind.{common_steps}
use Rattle.go_scan.proofs.numbers.is_integer.Goals as goal

pub returns-in-empty : goal.returns-in-empty
returns-in-empty c = grind (arith, common_steps)

pub returns-then-first-eq48 : goal.returns-then-first-eq48
returns-then-first-eq48 c = grind (arith, common_steps)

pub returns-then-is_ascii_digit : goal.returns-then-is_ascii_digit
returns-then-is_ascii_digit c = grind (arith, common_steps)

pub returns-else-is_ascii_digit : goal.returns-else-is_ascii_digit
returns-else-is_ascii_digit c = grind (arith, common_steps)
