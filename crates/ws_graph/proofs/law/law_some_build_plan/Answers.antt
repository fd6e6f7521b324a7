use Rattle.ws_graph.proofs.SomeBuildPlan.{some_build_plan_of}
use Rattle.ws_graph.proofs.law.law_some_build_plan.Goals as goal

pub returns : goal.returns
returns c = some_build_plan_of
