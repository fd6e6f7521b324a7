use Rattle.std.proofs.Common.{rules}
use Rattle.ws_cache.proofs.Joined.{empty_stands}
use Rattle.ws_cache.proofs.Cache.new.Goals as goal

pub returns-clause-stands : goal.returns-clause-stands
returns-clause-stands c = empty_stands _ (search rules)
