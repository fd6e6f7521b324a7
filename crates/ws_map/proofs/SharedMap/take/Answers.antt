use Rattle.std.proofs.Common.{refl}
use Rattle.ws_map.proofs.Gathered.{taken_news, taken_old}
use Rattle.ws_map.proofs.Keyed.{bytes_cmp_total, bytes_cmp-IsAntisymmetric}
use Rattle.ws_map.proofs.SharedMap.take.Goals as goal

pub returns-clause-ok : goal.returns-clause-ok
returns-clause-ok g c =
    let at = g.K.Key.bytes c.args.key in
    taken_news bytes_cmp_total bytes_cmp-IsAntisymmetric g.V.Ranked.rank c.args.self.now c.insert.new.self
    at at at c.args.value c.args.value c.args.value c.is_news.result
    refl refl refl refl c.is_news.ensures c.if-not-is_news.false c.in_ok-insert.ensures.ok

pub returns-then-not-is_news-clause-ok : goal.returns-then-not-is_news-clause-ok
returns-then-not-is_news-clause-ok g c =
    let at = g.K.Key.bytes c.args.key in
    taken_old bytes_cmp_total bytes_cmp-IsAntisymmetric g.V.Ranked.rank c.args.self.now
    at at c.args.value c.args.value c.is_news.result
    refl refl c.is_news.ensures c.if-not-is_news.true
