use Rattle.std.proofs.Common.{◌∷◌, [], ap, map, refl, ◌∙◌}
use Rattle.ws_graph.specs.Discovery.{string_texts}
use Rattle.ws_replica.specs.Jobs.{reached_of}
use Rattle.ws_replica.proofs.Plans.{reached_by_plan}
use Rattle.ws_replica.proofs.plan.reach_one.Goals as goal

pub returns-in-Some-clause-ok : goal.returns-in-Some-clause-ok
returns-in-Some-clause-ok g c =
    let registers = c.args.replica.now.registers in
    reached_by_plan c.args.edition registers registers (string_texts c.as_slice.result.now) (c.args.directory.now ∷ []) c.in-Some.plan.now c.as_slice-in-Some.result.now (map reached_of c.in_ok-reached.reached.items)
    refl (ap string_texts c.as_slice.ensures.value ∙ c.in_ok-only.ensures) c.as_slice-in-Some.ensures.value c.in-Some.ensures c.in_ok-reached.ensures

pub returns-clause-ok : goal.returns-clause-ok
returns-clause-ok g c =
    reached_by_plan c.args.edition c.registers.result.now c.args.replica.now.registers (string_texts c.in_ok-only.only.items) (c.args.directory.now ∷ []) c.in_ok-plan.plan c.as_slice-2.result.now (map reached_of c.in_ok-reached-2.reached.items)
    c.registers.ensures c.in_ok-only.ensures c.as_slice-2.ensures.value c.in_ok-plan.ensures.ok c.in_ok-reached-2.ensures
