use Rattle.ws_cache.proofs.Laws.{counts_agree}
use Rattle.ws_cache.proofs.law_counts_agree.Goals as goal

pub returns : goal.returns
returns c = counts_agree
