use Rattle.ws_cache.proofs.Laws.{put_again}
use Rattle.ws_cache.proofs.law_put_again.Goals as goal

pub returns : goal.returns
returns c = put_again
