use Rattle.ws_cache.proofs.Both.{bare}
use Rattle.ws_cache.proofs.layers.Layers.new.Goals as goal

pub returns : goal.returns
returns g c = bare g.met.V.Ranked.total g.met.V.Ranked.one c.new.result c.new-2.result c.new.ensures c.new-2.ensures
