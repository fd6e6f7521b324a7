use Rattle.std.proofs.Common.{◌≡◌, take}
use Rattle.ws_map.specs.Greater.{greater}
use Rattle.ws_map.specs.Kept.{joined}
use Rattle.ws_cache.specs.Levels.{joined_all}
use Rattle.ws_cache.proofs.levels.merge_all.Given as goal

abbrev pub invariant-loop-at : goal.invariant-loop-at
invariant-loop-at g l =
    joined_all (greater g.V.Ranked.rank) l.levels.items
    ≡ joined (greater g.V.Ranked.rank) (joined_all (greater g.V.Ranked.rank) l.fn.levels.items) (joined_all (greater g.V.Ranked.rank) (take l.at l.others))
