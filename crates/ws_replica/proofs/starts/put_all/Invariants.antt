use Rattle.std.proofs.Common.{◌≡◌, ◌+◌, length, map, take}
use Rattle.std.specs.List.{All}
use Rattle.std.specs.FinMap.{FinMap}
use Rattle.ws_action.specs.Actions.{Action}
use Rattle.ws_cache.specs.Held.{id_cmp}
use Rattle.ws_replica.specs.Builds.{target_of}
use Rattle.ws_replica.specs.Targets.{HaveCache}
use Rattle.ws_replica.proofs.starts.put_all.Given as goal

-- a cache is left for each target that is left, and the targets so far have theirs
abbrev pub invariant-loop-target : goal.invariant-loop-target
invariant-loop-target l =
    (length l.left.items + l.target-index ≡ length l.targets)
    × ((cache : FinMap id_cmp Action) → All (λ c. c ≡ cache) l.fn.caches.items → All (λ c. c ≡ cache) l.left.items × HaveCache (map target_of (take l.target-index l.targets)) cache l.fn.replicas l.replicas)
