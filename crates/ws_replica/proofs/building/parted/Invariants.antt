use Rattle.std.proofs.Common.{◌≡◌, ◌++◌, map, length}
use Rattle.std.specs.Vec.Iter.{into_iter_items}
use Rattle.ws_replica.specs.Jobs.{all_reached_of, all_places_of, jobs_after}
use Rattle.ws_replica.proofs.building.parted.Given as goal

-- those so far, and those of what is left
abbrev pub invariant-loop-reached : goal.invariant-loop-reached
invariant-loop-reached l =
    (all_places_of l.places.items ++ map (λ reached. map (λ r. r.place) reached) (all_reached_of (into_iter_items l.reached-iterator)) ≡ map (λ reached. map (λ r. r.place) reached) (all_reached_of l.fn.all.items))
    × (l.jobs.items ++ jobs_after (length l.jobs.items) (all_reached_of (into_iter_items l.reached-iterator)) ≡ jobs_after 0 (all_reached_of l.fn.all.items))
