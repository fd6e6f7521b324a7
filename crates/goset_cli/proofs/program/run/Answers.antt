use Rattle.std.proofs.Common.{arith}
use Rattle.goset_cli.specs.declared.status.Status.{Status}
use Rattle.goset_cli.proofs.Outcomes.{reads_as, stopped_as, writes_as}
use Rattle.goset_cli.proofs.program.run.Goals as goal

pub returns-in-Err-clause-session : goal.returns-in-Err-clause-session
returns-in-Err-clause-session g c = stopped_as (Unit {0}) Status _ _ _ _ _ _ c.in-Err.ensures.session

pub returns-in-Err-clause-reads : goal.returns-in-Err-clause-reads
returns-in-Err-clause-reads g c = let same = reads_as (Unit {0}) Status c.in-Err.failure in omega (arith, same, c.in-Err.ensures.reads)

pub returns-in-Err-clause-writes : goal.returns-in-Err-clause-writes
returns-in-Err-clause-writes g c = let same = writes_as (Unit {0}) Status c.in-Err.failure in omega (arith, same, c.in-Err.ensures.writes)
