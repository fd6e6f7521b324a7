use Rattle.std.proofs.Common.{rules, ◌≡◌, Some, ap, subst, ◌∙◌}
use Rattle.ws_graph.specs.Discovery.{string_texts}
use Rattle.ws_replica.specs.Plans.{KeepsPlan}
use Rattle.ws_replica.proofs.Plans.{plan_moved}
use Rattle.ws_replica.proofs.plan.kept_or_planned.Goals as goal

pub returns-in-Some-clause-ok : goal.returns-in-Some-clause-ok
returns-in-Some-clause-ok g c =
    let plan = c.in-Some.plan in
    let kept : c.args.kept ≡ Some plan = search rules in
    let is_in : plan.edition ≡ c.args.edition = search rules in
    let fits : string_texts plan.targets.items ≡ string_texts c.as_slice.result.now = search rules in
    plan_moved c.args.registers.now c.args.edition (string_texts c.args.targets.items) plan is_in (fits ∙ ap string_texts c.as_slice.ensures.value) (subst (KeepsPlan c.args.registers.now) kept c.requires)
