use Rattle.std.proofs.Common.{◌≡◌, ◌≤◌, length}
use Rattle.ws_map.specs.Greater.{greater}
use Rattle.ws_cache.specs.Levels.{joined_all}
use Rattle.ws_cache.proofs.levels.make_room.Given as goal

abbrev pub invariant-loop-done : goal.invariant-loop-done
invariant-loop-done g l = record {
  same : joined_all (greater g.V.Ranked.rank) l.levels.items ≡ joined_all (greater g.V.Ranked.rank) l.fn.levels.items;
  long : l.full ≤ length l.levels.items;
}
