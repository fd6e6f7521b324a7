use Rattle.std.proofs.Common.{arith}
use Rattle.std.proofs.lemmas.Grind.{common_steps}
use Rattle.go_link.proofs.starts.push_setups.Goals as goal

pub loop-setup-preserved : goal.loop-setup-preserved
loop-setup-preserved c = grind (arith, common_steps)

pub returns : goal.returns
returns c = grind (arith, common_steps)
