use Rattle.ws_cache.proofs.Both.{folded}
use Rattle.ws_cache.proofs.layers.Layers.fold_news.Goals as goal

pub returns : goal.returns
returns g c =
    folded g.met.V.Ranked.total g.met.V.Ranked.one c.self.inside.base c.self.inside.news c.add.new.self c.new.result c.args.self.now
    c.in-Ok.ensures.ok c.new.ensures c.self.view_is
