use Rattle.ws_cache.proofs.Outcomes.{one_outcome}
use Rattle.ws_cache.proofs.law_one_outcome.Goals as goal

pub returns : goal.returns
returns c = one_outcome
