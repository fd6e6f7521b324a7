use Rattle.std.proofs.Common.{ap, ◌∙◌}
use Rattle.ws_map.specs.Greater.{greater}
use Rattle.ws_map.specs.Kept.{joined}
use Rattle.ws_cache.proofs.Sunk.{set_more}
use Rattle.ws_cache.proofs.levels.merge_at.Goals as goal

pub returns-clause-ok : goal.returns-clause-ok
returns-clause-ok g c =
    set_more g.met.V.Ranked.total g.met.V.Ranked.one c.extend.new.levels.items c.args.at c.index_mut.result.now c.args.map.now c.merge.new.self
    c.in_ok-extend.ensures.long c.index_mut.ensures.value c.in_ok-merge.ensures.ok
    ∙ ap (λ m. joined (greater g.V.Ranked.rank) m c.args.map.now) c.extend.ensures.same
