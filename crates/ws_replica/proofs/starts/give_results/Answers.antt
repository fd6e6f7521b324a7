use Rattle.std.proofs.Common.{◌≡◌, length, map, sym, subst, ◌∙◌, refl}
use Rattle.std.specs.List.{All}
use Rattle.std.specs.FinMap.{FinMap, empty}
use Rattle.std.proofs.lemmas.List.Elements.{All-replicate}
use denote.Param.Send.{sendable}
use Rattle.ws_action.specs.Actions.{Action}
use Rattle.ws_map.specs.Kept.{joined}
use Rattle.ws_cache.specs.Held.{id_cmp}
use Rattle.ws_cache.specs.Joined.{lesser}
use Rattle.ws_cache.proofs.Crossing.{cache_send, cache_sync}
use Rattle.ws_replica.specs.Builds.{target_of, held_at, held_by}
use Rattle.ws_replica.proofs.BuiltTargets.{same_stands}
use Rattle.ws_replica.proofs.TargetSteps.{first_member, none_first, held_none, have_none, all_name_by, takes_one}
use Rattle.ws_replica.proofs.starts.give_results.Goals as goal

pub returns-in_default-clause-ok : goal.returns-in_default-clause-ok
returns-in_default-clause-ok c =
    let none = none_first c.args.targets.now c.in_default.ensures.value in
    record {
      opening = empty;
      opens = λ took stand hold. held_none took (map target_of c.args.targets.now) empty none refl;
      have = have_none (map target_of c.args.targets.now) (joined lesser empty c.args.added.now) c.args.replicas.now none;
    }

pub returns-then-all_name-clause-ok : goal.returns-then-all_name-clause-ok
returns-then-all_name-clause-ok c =
    takes_one c.args.holders.now (map target_of c.args.targets.now) (target_of c.in-Some.first.now) c.args.added.now c.args.replicas.now c.take_into.new.replicas (first_member c.args.targets.now c.in-Some.first.now c.in-Some.ensures.value)
    (all_name_by c.args.targets.now c.in-Some.first.now.replica (sym c.all_name.ensures ∙ c.if-all_name.true)) c.in_ok-take_into.ensures.ok

pub copies-requires-send-J : goal.copies-requires-send-J
copies-requires-send-J c κs = search (cache_send, sendable) depth 20

pub copies-requires-sync-J : goal.copies-requires-sync-J
copies-requires-sync-J c κs = search (cache_sync, sendable) depth 20

pub returns-clause-ok : goal.returns-clause-ok
returns-clause-ok c =
    let whole : FinMap id_cmp Action = joined lesser c.in_ok-cache.cache c.args.added.now in
    record {
      opening = c.in_ok-cache.cache;
      opens = λ took stand hold. same_stands c.in_ok-cache.cache (held_at took c.args.holders.now) (held_by took (map target_of c.args.targets.now)) hold (c.in_ok-cache.ensures took stand);
      have = c.put_all.ensures whole
          (subst (All (λ (m : FinMap id_cmp Action). m ≡ whole)) (sym c.in_ok-caches.ensures)
          (All-replicate (λ (m : FinMap id_cmp Action). m ≡ whole) (length c.args.targets.now) c.merge.new.self c.in_ok-merge.ensures.ok));
    }
