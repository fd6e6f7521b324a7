use Rattle.std.proofs.Common.{◌≡◌, ◌∙◌, List, sym, ap, subst}
use Rattle.std.proofs.lemmas.Result.{IfOk-weaker}
use Rattle.std.specs.List.{Contains}
use Rattle.ws_action.specs.Actions.{Action}
use Rattle.ws_replica.specs.Builds.{held_at}
use Rattle.ws_replica.proofs.TargetSteps.{held_numbers, numbers_within}
use Rattle.ws_replica.proofs.building.build.Goals as goal

pub build_over-requires-clause-holding : goal.build_over-requires-clause-holding
build_over-requires-clause-holding g c κs within = numbers_within c.args.targets.now c.deref.result.now _ (c.deref.ensures.value ∙ c.in_ok-holders.ensures) c.requires.within

pub returns-clause-ok : goal.returns-clause-ok
returns-clause-ok g c = IfOk-weaker c.build_over.result _ _ (λ reports built took stand sized.
    let same : held_at took c.deref.result.now ≡ _ = ap (held_at took) (c.deref.ensures.value ∙ c.in_ok-holders.ensures) ∙ held_numbers took c.args.targets.now in
    built took stand sized (λ a. (λ d. subst (λ (E : List Action). Contains E a) same d, λ d. subst (λ (E : List Action). Contains E a) (sym same) d))) c.build_over.ensures.ok
