use Rattle.ws_replica.proofs.OneBuild.{one_build}
use Rattle.ws_replica.proofs.law_one_build.Goals as goal

pub returns : goal.returns
returns c = one_build
