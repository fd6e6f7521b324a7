use Rattle.std.proofs.Common.{◌≡◌, take}
use Rattle.ws_cache.proofs.levels.Levels.copy.Given as goal

abbrev pub invariant-loop-level : goal.invariant-loop-level
invariant-loop-level g l = l.all.items ≡ take l.level-index l.level-items
