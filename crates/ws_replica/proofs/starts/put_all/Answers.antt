use Rattle.std.proofs.Common.{◌≡◌, ◌<◌, map, take, get_or, length, sym, ap, subst, ◌∙◌, List, [], ◌∷◌, ◌++◌, Some, arith, rules}
use Rattle.std.specs.Prelude.{slice_set}
use Rattle.std.specs.FinMap.{FinMap}
use Rattle.std.proofs.lemmas.Option.{slice_get-get_or}
use Rattle.std.proofs.lemmas.List.Elements.{All-pop}
use Rattle.ws_action.specs.Actions.{Action}
use Rattle.ws_cache.specs.Held.{id_cmp}
use Rattle.ws_replica.specs.Builds.{target_of}
use Rattle.ws_replica.specs.Holdings.{Replica}
use Rattle.ws_replica.specs.Targets.{HaveCache}
use Rattle.ws_replica.proofs.TargetSteps.{target_at, targets_next, have_next}
use Rattle.ws_replica.proofs.starts.put_all.Goals as goal

pub loop-target-preserved : goal.loop-target-preserved
loop-target-preserved c =
    let i = c.loop-target.target-index in
    let within : i < length c.args.targets.now = omega arith in
    let t = target_at c.args.targets.now i in
    let mid : List Replica = c.loop-target.replicas in
    let r : Replica = get_or mid t.replica c.index-replicas-target.result in
    let inside : t.replica < length mid = search rules in (
      omega (arith, c.in-Some.ensures.len),
      λ cache all.
          let before = c.loop-target.invariant.1 cache all in
          let popped = All-pop (λ (m : FinMap id_cmp Action). m ≡ cache) c.loop-target.left.items c.pop.new.self.items (Some c.in-Some.cache) c.in-Some.ensures.items before.0 in
          let put : c.put_cache.new.self ≡ record r { cache = cache } = c.put_cache.ensures ∙ ap (λ (m : FinMap id_cmp Action). let z : Replica = record r { cache = m } in z) popped.1 in (
            popped.0,
            subst (λ ts. HaveCache ts cache c.args.replicas.now (slice_set mid t.replica c.put_cache.new.self)) (sym (targets_next c.args.targets.now i within))
                (subst (λ (z : Replica). HaveCache (map target_of (take i c.args.targets.now) ++ target_of t ∷ []) cache c.args.replicas.now (slice_set mid t.replica z)) (sym put)
                (have_next (map target_of (take i c.args.targets.now)) (target_of t) cache c.args.replicas.now mid r (slice_get-get_or mid t.replica c.index-replicas-target.result inside) before.1)),
          ),
    )
