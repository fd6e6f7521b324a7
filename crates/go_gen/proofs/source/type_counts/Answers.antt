use Rattle.std.proofs.Common.{arith}
use Rattle.std.proofs.lemmas.Grind.{common_steps}
use Rattle.go_gen.proofs.source.type_counts.Goals as goal

pub loop-of-preserved : goal.loop-of-preserved
loop-of-preserved c = grind (arith, common_steps)

pub returns : goal.returns
returns c = grind (arith, common_steps)
