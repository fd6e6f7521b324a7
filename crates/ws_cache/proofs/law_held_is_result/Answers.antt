use Rattle.ws_cache.proofs.Outcomes.{held_is_result}
use Rattle.ws_cache.proofs.law_held_is_result.Goals as goal

pub returns : goal.returns
returns c = held_is_result
