use Rattle.std.proofs.Common.{◌≡◌, ◌∷◌, [], ap, ◌∙◌, subst}
use Rattle.std.specs.Prelude.{map}
use Rattle.std.proofs.lemmas.Result.{IfOk-weaker}
use Rattle.ws_graph.specs.BuildPlan.{IsJointPlan, SomeHasNoFiles}
use Rattle.ws_graph.specs.Discovery.{string_texts}
use Rattle.ws_graph.specs.Node.{directory_of}
use Rattle.ws_graph.proofs.Joint.{joint_of_one, lacks_one}
use Rattle.ws_graph.proofs.planning.plan_in.Goals as goal

pub returns-clause-ok : goal.returns-clause-ok
returns-clause-ok g c = λ W stands.
    let only : string_texts c.as_slice.result.now ≡ c.args.target.now ∷ [] = ap string_texts c.as_slice.ensures.value ∙ c.in_ok-only.ensures in
    IfOk-weaker c.plan_all.result _ _ (λ plan planned. let h = planned W stands in (h.0, h.1, joint_of_one c.args.edition h.0 c.args.target.now (map directory_of plan.directories.items) (subst (λ ts. IsJointPlan c.args.edition h.0 ts (map directory_of plan.directories.items)) only h.2))) c.plan_all.ensures.ok

pub returns-clause-none : goal.returns-clause-none
returns-clause-none g c = λ W stands is.
    let only : string_texts c.as_slice.result.now ≡ c.args.target.now ∷ [] = ap string_texts c.as_slice.ensures.value ∙ c.in_ok-only.ensures in
    lacks_one c.args.edition W c.args.target.now (subst (SomeHasNoFiles c.args.edition W) only (c.plan_all.ensures.none W stands is))
