use Rattle.std.proofs.Common.{option_copied}
use Rattle.ws_cache.proofs.Both.{get-both}
use Rattle.ws_cache.proofs.layers.Layers.get.Goals as goal

pub returns : goal.returns
returns g c =
    get-both g.met.V.Ranked.total g.met.V.Ranked.one c.self.inside.base c.self.inside.news c.args.self.now (g.K.Key.bytes c.args.key.now)
    (option_copied c.get.result) (option_copied c.get-2.result) (option_copied c.greater_of.result) c.get.ensures c.get-2.ensures c.self.view_is c.greater_of.ensures
