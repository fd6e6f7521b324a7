use Rattle.std.proofs.Common.{arith}
use Rattle.std.proofs.lemmas.Grind.{common_steps}
use Rattle.go_gen.proofs.size.push_slots.Goals as goal

pub loop-of-preserved : goal.loop-of-preserved
loop-of-preserved c = grind (arith, common_steps)

pub returns-clause-slots : goal.returns-clause-slots
returns-clause-slots c = grind (arith, common_steps)

pub returns-clause-total : goal.returns-clause-total
returns-clause-total c = grind (arith, common_steps)
