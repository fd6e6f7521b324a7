use Rattle.std.proofs.Common.{◌≡◌, ◌+◌, ◌∷◌, ◌++◌, map, ap, ◌∙◌, refl, List, ℕ, rules}
use Rattle.std.specs.Vec.Iter.{into_iter_items}
use Rattle.ws_board.specs.Work.{Job}
use Rattle.ws_replica.specs.Jobs.{ReachedDirectory, place_seen, reached_of, job_after}
use Rattle.ws_replica.proofs.TargetSteps.{listed_more, places_push}
use Rattle.ws_replica.proofs.building.add_jobs.Goals as goal

pub loop-one-preserved : goal.loop-one-preserved
loop-one-preserved c =
    let before = c.len-before.result in
    let one = c.in-Some.one in
    let left : into_iter_items c.loop-one.one-iterator ≡ one ∷ into_iter_items c.next.new.self = search rules in
    let reached : map reached_of (into_iter_items c.loop-one.one-iterator) ≡ reached_of one ∷ map reached_of (into_iter_items c.next.new.self) = ap (map reached_of) left in
    let numbers : c.in_ok-imports.imports.items ≡ map (λ k. before + k) one.imports.items = c.in_ok-imports.ensures ∙ ap (map (λ k. before + k)) c.deref.ensures.value in
    let job : c.new-job.result ≡ job_after before (reached_of one) = c.new-job.ensures ∙ ap (λ (ks : List ℕ). let j : Job = record { work = one.work; imports = ks } in j) numbers in (
      listed_more (λ (r : ReachedDirectory). r.place) (map place_seen c.loop-one.places.items) (map place_seen c.push.new.self.items) (place_seen one.place) (reached_of one) (map reached_of (into_iter_items c.loop-one.one-iterator)) (map reached_of (into_iter_items c.next.new.self)) (map (λ (r : ReachedDirectory). r.place) (map reached_of c.args.reached.items)) (places_push c.loop-one.places.items c.push.new.self.items one.place c.in_ok-push.ensures.items) reached refl c.loop-one.invariant.0,
      listed_more (job_after before) c.loop-one.jobs.items c.push-in-loop-one.new.self.items c.new-job.result (reached_of one) (map reached_of (into_iter_items c.loop-one.one-iterator)) (map reached_of (into_iter_items c.next.new.self)) (c.args.jobs.now.items ++ map (job_after before) (map reached_of c.args.reached.items)) c.in_ok-push-2.ensures.items reached job c.loop-one.invariant.1,
    )
