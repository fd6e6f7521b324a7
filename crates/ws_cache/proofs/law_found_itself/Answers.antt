use Rattle.ws_cache.proofs.Laws.{found_itself}
use Rattle.ws_cache.proofs.law_found_itself.Goals as goal

pub returns : goal.returns
returns c = found_itself
