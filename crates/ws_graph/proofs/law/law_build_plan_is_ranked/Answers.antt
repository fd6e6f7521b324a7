use Rattle.ws_graph.proofs.RankedPlan.{ranked_build_plan}
use Rattle.ws_graph.proofs.law.law_build_plan_is_ranked.Goals as goal

pub returns : goal.returns
returns c = ranked_build_plan
