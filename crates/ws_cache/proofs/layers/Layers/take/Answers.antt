use Rattle.std.proofs.Common.{refl, ◌∙◌}
use Rattle.ws_map.proofs.Gathered.{taken_old}
use Rattle.ws_map.proofs.Keyed.{bytes_cmp_total, bytes_cmp-IsAntisymmetric}
use Rattle.ws_cache.proofs.Both.{taken_in}
use Rattle.ws_cache.proofs.layers.Layers.take.Goals as goal

pub returns-then-not-is_news-clause-ok : goal.returns-then-not-is_news-clause-ok
returns-then-not-is_news-clause-ok g c =
    let at = g.K.Key.bytes c.args.key in
    taken_old bytes_cmp_total bytes_cmp-IsAntisymmetric g.V.Ranked.rank c.args.self.now
    at at c.args.value c.args.value c.is_news.result
    refl refl c.is_news.ensures c.if-not-is_news.true

pub returns-clause-ok : goal.returns-clause-ok
returns-clause-ok g c =
    c.fold_news.ensures
    ∙ taken_in g.met.V.Ranked.total g.met.V.Ranked.one c.self.inside.base c.self.inside.news c.take.new.self c.args.self.now (g.K.Key.bytes c.args.key) c.args.value
    c.in_ok-take.ensures.ok c.self.view_is
