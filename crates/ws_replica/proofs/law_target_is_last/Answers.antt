use Rattle.ws_replica.proofs.LastPackage.{target_is_last}
use Rattle.ws_replica.proofs.law_target_is_last.Goals as goal

pub returns : goal.returns
returns c = target_is_last
