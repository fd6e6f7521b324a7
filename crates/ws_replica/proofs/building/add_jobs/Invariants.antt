use Rattle.std.proofs.Common.{◌≡◌, ◌++◌, map}
use Rattle.std.specs.Vec.Iter.{into_iter_items}
use Rattle.ws_replica.specs.Jobs.{place_seen, reached_of, job_after}
use Rattle.ws_replica.proofs.building.add_jobs.Given as goal

-- those so far, and those of what is left
abbrev pub invariant-loop-one : goal.invariant-loop-one
invariant-loop-one l =
    (map place_seen l.places.items ++ map (λ r. r.place) (map reached_of (into_iter_items l.one-iterator)) ≡ map (λ r. r.place) (map reached_of l.fn.reached.items))
    × (l.jobs.items ++ map (job_after l.before) (map reached_of (into_iter_items l.one-iterator)) ≡ l.fn.jobs.items ++ map (job_after l.before) (map reached_of l.fn.reached.items))
