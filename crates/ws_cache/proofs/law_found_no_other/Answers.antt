use Rattle.ws_cache.proofs.Laws.{found_no_other}
use Rattle.ws_cache.proofs.law_found_no_other.Goals as goal

pub returns : goal.returns
returns c = found_no_other
