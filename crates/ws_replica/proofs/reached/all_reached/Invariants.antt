use Rattle.std.proofs.Common.{◌≡◌, map, take}
use Rattle.ws_replica.specs.Jobs.{shared_of, reached_of, reached_by}
use Rattle.ws_replica.proofs.reached.all_reached.Given as goal

-- those so far
abbrev pub invariant-loop-directory : goal.invariant-loop-directory
invariant-loop-directory l = map reached_of l.reached.items ≡ map (reached_by l.edition) (map shared_of (take l.directory-index l.directories))
