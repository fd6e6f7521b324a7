use Rattle.std.proofs.Common.{◌≡◌, ◌+◌, length}
use Rattle.ws_map.specs.Greater.{greater}
use Rattle.ws_cache.specs.Levels.{joined_all}
use Rattle.ws_cache.proofs.levels.extend.Given as goal

abbrev pub invariant-loop : goal.invariant-loop
invariant-loop g l = record {
  same : joined_all (greater g.V.Ranked.rank) l.levels.items ≡ joined_all (greater g.V.Ranked.rank) l.fn.levels.items;
  long : length l.levels.items ≡ length l.fn.levels.items + 1 + l.counter;
}
