use Rattle.std.proofs.Common.{◌≡◌, ◌<◌, ◌∙◌, List, sym, ap, subst, map, length}
use Rattle.std.proofs.lemmas.List.{length-map}
use Rattle.std.specs.Prelude.{Vec}
use Rattle.std.specs.Global.{Global}
use Rattle.std.specs.List.{All, AllZip}
use Rattle.ws_replica.specs.Builds.{target_of}
use Rattle.ws_replica.specs.Holdings.{Replica}
use Rattle.ws_replica.specs.Jobs.{reached_of, all_reached_of}
use Rattle.ws_replica.specs.Parts.{target_part, AllPartsWithin, IsPartOf, IsRunOf}
use Rattle.ws_replica.specs.Targets.{AllInOrder, IsOpening, TakeResults}
use Rattle.ws_replica.specs.declared.parts.Part.{Part}
use Rattle.ws_replica.specs.declared.reached.Reached.{Reached}
use Rattle.ws_replica.proofs.BuiltTargets.{are_built}
use Rattle.ws_replica.proofs.PartSteps.{named_within}
use Rattle.ws_replica.proofs.building.build_over.Goals as goal

pub all_parts-requires-clause-named : goal.all_parts-requires-clause-named
all_parts-requires-clause-named g c =
    let all = c.in_ok-all.all.items in
    let same : length c.args.replicas.now ≡ length c.as_slice.result.now =
    sym c.in_ok-all.ensures.ok.size ∙ length-map all (λ (v : Vec Reached Global). map reached_of v.items) ∙ ap (λ (xs : List (Vec Reached Global)). length xs) (sym c.as_slice.ensures.value) in
    named_within c.args.targets.now (length c.args.replicas.now) (length c.as_slice.result.now) same c.requires.within

pub all_parts-requires-clause-order : goal.all_parts-requires-clause-order
all_parts-requires-clause-order g c = subst (λ (xs : List (Vec Reached Global)). AllInOrder (all_reached_of xs)) (sym c.as_slice.ensures.value) c.in_ok-all.ensures.order

pub opening_of-requires : goal.opening_of-requires
opening_of-requires g c = subst (λ (rs : List Replica). All (λ k. k < length rs) c.args.holders.now) (sym c.in_ok-all.ensures.same) c.requires.holding

pub give_results-requires-clause-named : goal.give_results-requires-clause-named
give_results-requires-clause-named g c = subst (λ (rs : List Replica). All (λ t. t.replica < length rs) c.args.targets.now) (sym (c.in_ok-remember_all.ensures ∙ c.in_ok-all.ensures.same)) c.requires.within

pub give_results-requires-clause-holding : goal.give_results-requires-clause-holding
give_results-requires-clause-holding g c = subst (λ (rs : List Replica). All (λ k. k < length rs) c.args.holders.now) (sym (c.in_ok-remember_all.ensures ∙ c.in_ok-all.ensures.same)) c.requires.holding

pub returns-clause-registers : goal.returns-clause-registers
returns-clause-registers g c = c.in_ok-give_results.ensures.ok.have.registers ∙ ap (map (λ (r : Replica). r.registers)) (c.in_ok-remember_all.ensures ∙ c.in_ok-all.ensures.same)

pub run-requires-clause-within : goal.run-requires-clause-within
run-requires-clause-within g c κs within =
    subst (λ (ps : List Part). AllPartsWithin (length c.in_ok-all.all.items) ps) (sym c.as_slice-2.ensures.value)
    (subst (λ (xs : List (Vec Reached Global)). AllPartsWithin (length xs) c.in_ok-parts.parts.items) c.as_slice.ensures.value c.in_ok-parts.ensures.within)

pub returns-clause-ok : goal.returns-clause-ok
returns-clause-ok g c took stand sized hold =
    let all = all_reached_of c.in_ok-all.all.items in
    let parts = map target_part c.in_ok-parts.parts.items in
    let targets = map target_of c.args.targets.now in
    let holders = c.args.holders.now in
    let parts_are : AllZip (IsPartOf all) targets parts = subst (λ (xs : List (Vec Reached Global)). AllZip (IsPartOf (all_reached_of xs)) targets parts) c.as_slice.ensures.value c.in_ok-parts.ensures.are in
    let run : IsRunOf c.in_ok-opening.opening all parts c.in_ok-reports.reports.items c.in_ok-reports.added =
    subst (λ (ps : List Part). IsRunOf c.in_ok-opening.opening all (map target_part ps) c.in_ok-reports.reports.items c.in_ok-reports.added) c.as_slice-2.ensures.value c.in_ok-reports.ensures in
    let same : c.all_planned.new.replicas ≡ c.args.replicas.now = c.in_ok-all.ensures.same in
    let opens : IsOpening c.args.replicas.now holders c.in_ok-opening.opening = subst (λ (rs : List Replica). IsOpening rs holders c.in_ok-opening.opening) same c.in_ok-opening.ensures in
    let take : TakeResults holders targets c.in_ok-reports.added c.args.replicas.now c.give_results.new.replicas =
    subst (λ (rs : List Replica). TakeResults holders targets c.in_ok-reports.added rs c.give_results.new.replicas) (c.in_ok-remember_all.ensures ∙ same) c.in_ok-give_results.ensures.ok in
    are_built c.args.edition c.args.replicas.now c.give_results.new.replicas took targets stand sized
    all c.in_ok-all.ensures.ok parts parts_are holders hold c.in_ok-opening.opening opens c.in_ok-reports.reports.items c.in_ok-reports.added run take
