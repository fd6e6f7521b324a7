use Rattle.std.proofs.Common.{arith}
use Rattle.std.proofs.lemmas.Grind.{common_steps}
use Rattle.ws_action.proofs.part.ascend.Goals as goal

pub returns-in_default : goal.returns-in_default
returns-in_default g c = grind (arith, common_steps)

pub loop-part-preserved : goal.loop-part-preserved
loop-part-preserved g c = grind (arith, common_steps)

pub returns : goal.returns
returns g c = grind (arith, common_steps)
