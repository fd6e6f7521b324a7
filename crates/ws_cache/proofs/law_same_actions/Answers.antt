use Rattle.ws_cache.proofs.Joined.{one_cache}
use Rattle.ws_cache.proofs.law_same_actions.Goals as goal

pub returns : goal.returns
returns c = one_cache
