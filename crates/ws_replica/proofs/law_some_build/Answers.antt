use Rattle.ws_replica.proofs.SomeBuild.{some_build}
use Rattle.ws_replica.proofs.law_some_build.Goals as goal

pub returns : goal.returns
returns c = some_build
