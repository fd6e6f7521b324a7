use Rattle.ws_replica.proofs.Equal.{one_of_sources}
use Rattle.ws_replica.proofs.law.law_image_follows_from_sources.Goals as goal

pub returns : goal.returns
returns c = one_of_sources
