use Rattle.ws_cache.proofs.Laws.{count_of_one}
use Rattle.ws_cache.proofs.law_count_of_one.Goals as goal

pub returns : goal.returns
returns c = count_of_one
