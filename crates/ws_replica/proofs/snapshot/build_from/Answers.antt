use Rattle.std.proofs.Common.{◌≡◌, ◌<◌, ◌∙◌, ℕ, List, map, sym, ap, subst, length}
use Rattle.std.proofs.lemmas.List.{length-map}
use Rattle.std.specs.Prelude.{Vec}
use Rattle.std.specs.Global.{Global}
use Rattle.std.specs.FinMap.{FinMap}
use Rattle.std.specs.List.{All, AllZip}
use Rattle.ws_map.specs.Kept.{joined}
use Rattle.ws_action.specs.Actions.{Action}
use Rattle.ws_cache.specs.Held.{id_cmp, CacheStandsFor}
use Rattle.ws_cache.specs.Joined.{lesser}
use Rattle.ws_replica.specs.Builds.{target_of, held_at, held_by, AreBuiltFrom}
use Rattle.ws_replica.specs.Holdings.{Replica}
use Rattle.ws_replica.specs.Jobs.{reached_of, all_reached_of}
use Rattle.ws_replica.specs.Parts.{target_part, AllPartsWithin, IsPartOf, IsRunOf}
use Rattle.ws_replica.specs.Targets.{AreReached, AllInOrder, IsOpening}
use Rattle.ws_replica.specs.declared.parts.Part.{Part}
use Rattle.ws_replica.specs.declared.reached.Reached.{Reached}
use Rattle.ws_replica.proofs.BuiltTargets.{are_built_from}
use Rattle.ws_replica.proofs.PartSteps.{named_within}
use Rattle.ws_replica.proofs.TargetSteps.{held_numbers, numbers_within}
use Rattle.ws_replica.proofs.snapshot.build_from.Goals as goal

pub all_parts-requires-clause-named : goal.all_parts-requires-clause-named
all_parts-requires-clause-named g c =
    let all = c.in_ok-all.all.items in
    let held : c.as_mut_slice.result.now ≡ c.args.snapshots.now = c.as_mut_slice.ensures.value ∙ c.in_ok-replicas.ensures in
    let same : length c.args.snapshots.now ≡ length c.as_slice.result.now =
    ap (λ (rs : List Replica). length rs) (sym held) ∙ sym c.in_ok-all.ensures.ok.size ∙ length-map all (λ (v : Vec Reached Global). map reached_of v.items) ∙ ap (λ (xs : List (Vec Reached Global)). length xs) (sym c.as_slice.ensures.value) in
    named_within c.args.targets.now (length c.args.snapshots.now) (length c.as_slice.result.now) same c.requires.within

pub all_parts-requires-clause-order : goal.all_parts-requires-clause-order
all_parts-requires-clause-order g c = subst (λ (xs : List (Vec Reached Global)). AllInOrder (all_reached_of xs)) (sym c.as_slice.ensures.value) c.in_ok-all.ensures.order

pub opening_of-requires : goal.opening_of-requires
opening_of-requires g c =
    let held : c.deref.result.now ≡ c.args.snapshots.now = c.deref.ensures.value ∙ c.in_ok-replicas.ensures in
    numbers_within c.args.targets.now c.deref-2.result.now (length c.deref.result.now) (c.deref-2.ensures.value ∙ c.in_ok-numbers.ensures)
    (subst (λ (rs : List Replica). All (λ t. t.replica < length rs) c.args.targets.now) (sym held) c.requires.within)

pub run-requires-clause-within : goal.run-requires-clause-within
run-requires-clause-within g c κs within =
    subst (λ (ps : List Part). AllPartsWithin (length c.in_ok-all.all.items) ps) (sym c.as_slice-2.ensures.value)
    (subst (λ (xs : List (Vec Reached Global)). AllPartsWithin (length xs) c.in_ok-parts.parts.items) c.as_slice.ensures.value c.in_ok-parts.ensures.within)

pub returns-clause-ok : goal.returns-clause-ok
returns-clause-ok g c took stand sized =
    let edition = c.args.edition in
    let held : List Replica = c.args.snapshots.now in
    let targets = map target_of c.args.targets.now in
    let all = all_reached_of c.in_ok-all.all.items in
    let parts = map target_part c.in_ok-parts.parts.items in
    let opening = c.in_ok-opening.opening in
    let reached : AreReached edition held targets all = subst (λ (rs : List Replica). AreReached edition rs targets all) (c.as_mut_slice.ensures.value ∙ c.in_ok-replicas.ensures) c.in_ok-all.ensures.ok in
    let parts_are : AllZip (IsPartOf all) targets parts = subst (λ (xs : List (Vec Reached Global)). AllZip (IsPartOf (all_reached_of xs)) targets parts) c.as_slice.ensures.value c.in_ok-parts.ensures.are in
    let run : IsRunOf opening all parts c.in_ok-reports.reports.items c.in_ok-reports.added =
    subst (λ (ps : List Part). IsRunOf opening all (map target_part ps) c.in_ok-reports.reports.items c.in_ok-reports.added) c.as_slice-2.ensures.value c.in_ok-reports.ensures in
    let numbers : List ℕ = c.deref-2.result.now in
    let opens : IsOpening held numbers opening = subst (λ (rs : List Replica). IsOpening rs numbers opening) (c.deref.ensures.value ∙ c.in_ok-replicas.ensures) c.in_ok-opening.ensures in
    let same : held_at took numbers ≡ held_by took targets = ap (held_at took) (c.deref-2.ensures.value ∙ c.in_ok-numbers.ensures) ∙ held_numbers took c.args.targets.now in
    let stands : CacheStandsFor opening (held_by took targets) = subst (CacheStandsFor opening) same (opens took stand) in
    let merged : c.merge.new.self ≡ joined lesser opening c.in_ok-reports.added = c.in_ok-merge.ensures.ok ∙ ap (λ (m : FinMap id_cmp Action). joined lesser m c.in_ok-reports.added) c.in_ok-cache.ensures in
    subst (AreBuiltFrom edition took targets c.in_ok-reports.reports.items) (sym merged)
    (are_built_from edition held took targets stand sized all reached parts parts_are opening stands c.in_ok-reports.reports.items c.in_ok-reports.added run)
