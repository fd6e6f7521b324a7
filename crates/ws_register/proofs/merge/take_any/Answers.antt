use Rattle.std.proofs.Common.{arith}
use Rattle.std.proofs.lemmas.Grind.{common_steps}
use Rattle.ws_register.proofs.merge.take_any.Goals as goal

pub returns-in-Some-clause-taken : goal.returns-in-Some-clause-taken
returns-in-Some-clause-taken c = grind (arith, common_steps)

pub returns-in-Some-clause-more : goal.returns-in-Some-clause-more
returns-in-Some-clause-more c = grind (arith, common_steps)

pub returns-in-Some-clause-done : goal.returns-in-Some-clause-done
returns-in-Some-clause-done c = grind (arith, common_steps)

pub returns-in_default-next_shared-clause-taken : goal.returns-in_default-next_shared-clause-taken
returns-in_default-next_shared-clause-taken c = grind (arith, common_steps)

pub returns-in_default-next_shared-clause-more : goal.returns-in_default-next_shared-clause-more
returns-in_default-next_shared-clause-more c = grind (arith, common_steps)

pub returns-in_default-next_shared-clause-done : goal.returns-in_default-next_shared-clause-done
returns-in_default-next_shared-clause-done c = grind (arith, common_steps)

pub returns-clause-taken : goal.returns-clause-taken
returns-clause-taken c = grind (arith, common_steps)

pub returns-clause-more : goal.returns-clause-more
returns-clause-more c = grind (arith, common_steps)

pub returns-clause-done : goal.returns-clause-done
returns-clause-done c = grind (arith, common_steps)
