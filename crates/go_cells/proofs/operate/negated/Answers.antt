use Rattle.std.proofs.Common.{arith}
use Rattle.std.proofs.lemmas.Int.{ints}
use Rattle.std.proofs.lemmas.Grind.{common_steps}
use Rattle.go_cells.proofs.operate.negated.Goals as goal

pub overflow_sub-x : goal.overflow_sub-x
overflow_sub-x c = grind (arith, ints, common_steps)
