use Rattle.std.proofs.Common.{sym, option_copied}
use Rattle.std.specs.FinMap.{get-empty}
use Rattle.ws_map.specs.Keyed.{bytes_cmp}
use Rattle.ws_cache.proofs.Sunk.{get_more}
use Rattle.ws_cache.proofs.levels.Levels.get.Goals as goal

pub loop-level-init : goal.loop-level-init
loop-level-init g c = sym (get-empty bytes_cmp (g.K.Key.bytes c.args.key.now))

pub loop-level-preserved : goal.loop-level-preserved
loop-level-preserved g c =
    get_more g.met.V.Ranked.total g.met.V.Ranked.one c.deref-level-items.result.now c.loop-level.level-index c.level-item.result (g.K.Key.bytes c.args.key.now)
    (option_copied c.loop-level.found) (option_copied c.get.result) (option_copied c.greater_of-found.result)
    c.loop-level-test.true c.level-item.is c.loop-level.invariant c.get.ensures c.greater_of-found.ensures
