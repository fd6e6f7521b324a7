use Rattle.ws_replica.proofs.Equal.{equal_replicas}
use Rattle.ws_replica.proofs.law_equal_replicas.Goals as goal

pub returns : goal.returns
returns c = equal_replicas
