use Rattle.ws_graph.proofs.OnePlan.{one_plan_of}
use Rattle.ws_graph.proofs.law_one_plan.Goals as goal

pub returns : goal.returns
returns c = one_plan_of
