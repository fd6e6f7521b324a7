use Rattle.ws_replica.proofs.Equal.{equal_images}
use Rattle.ws_replica.proofs.law_equal_images.Goals as goal

pub returns : goal.returns
returns c = equal_images
