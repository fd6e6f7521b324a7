use Rattle.std.proofs.Common.{ap, ◌∙◌}
use Rattle.ws_map.specs.Greater.{greater}
use Rattle.ws_map.specs.Kept.{joined}
use Rattle.ws_cache.proofs.Both.{joined_in}
use Rattle.ws_cache.proofs.layers.Layers.merge.Goals as goal

pub returns-clause-ok : goal.returns-clause-ok
returns-clause-ok g c =
    c.fold_news.ensures
    ∙ joined_in g.met.V.Ranked.total g.met.V.Ranked.one c.self.inside.base c.self.inside.news c.args.self.now c.other.inside.base c.other.inside.news c.args.other.now
    c.merge-2.new.self c.merge.new.self c.in_ok-merge-2.ensures.ok
    (c.in_ok-merge.ensures.ok ∙ ap (λ m. joined (greater g.V.Ranked.rank) m c.other.inside.news) c.in_ok-news.ensures)
    c.self.view_is c.other.view_is
