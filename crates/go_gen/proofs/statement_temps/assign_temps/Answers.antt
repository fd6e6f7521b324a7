use Rattle.std.proofs.Common.{arith}
use Rattle.std.proofs.lemmas.Grind.{common_steps}
use Rattle.go_gen.proofs.statement_temps.assign_temps.Goals as goal

pub returns : goal.returns
returns c = grind (arith, common_steps)
