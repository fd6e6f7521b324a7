use Rattle.ws_graph.proofs.OneBuildPlan.{one_build_plan_of}
use Rattle.ws_graph.proofs.law.law_one_build_plan.Goals as goal

pub returns : goal.returns
returns c = one_build_plan_of
