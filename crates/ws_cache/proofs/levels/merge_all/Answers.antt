use Rattle.std.proofs.Common.{sym}
use Rattle.ws_map.specs.Greater.{greater}
use Rattle.ws_cache.specs.Levels.{joined_all}
use Rattle.ws_cache.proofs.Sunk.{empty_last, merged_more}
use Rattle.ws_cache.proofs.levels.merge_all.Goals as goal

pub loop-at-init : goal.loop-at-init
loop-at-init g c = sym (empty_last g.met.V.Ranked.total g.met.V.Ranked.one (joined_all (greater g.V.Ranked.rank) c.args.levels.now.items))

pub loop-at-preserved : goal.loop-at-preserved
loop-at-preserved g c =
    let all = joined_all (greater g.V.Ranked.rank) in
    merged_more g.met.V.Ranked.total g.met.V.Ranked.one (all c.args.levels.now.items) (all c.loop-at.levels.items) (all c.merge_at.new.levels.items)
    c.args.others.now c.loop-at.at c.index-others-at.result c.loop-at-test.true c.index-others-at.is c.loop-at.invariant c.in_ok-merge_at.ensures.ok
