use Rattle.std.proofs.Common.{◌≡◌, option_copied, take}
use Rattle.std.specs.FinMap.{get}
use Rattle.ws_map.specs.Greater.{greater}
use Rattle.ws_cache.specs.Levels.{joined_all}
use Rattle.ws_cache.proofs.levels.Levels.get.Given as goal

abbrev pub invariant-loop-level : goal.invariant-loop-level
invariant-loop-level g l = option_copied l.found ≡ get (joined_all (greater g.V.Ranked.rank) (take l.level-index l.level-items)) (g.K.Key.bytes l.key)
