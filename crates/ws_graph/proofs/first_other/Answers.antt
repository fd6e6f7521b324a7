use Rattle.ws_graph.proofs.PlanFiles.{leads_next}
use Rattle.ws_graph.proofs.first_other.Goals as goal

pub loop-other-preserved : goal.loop-other-preserved
loop-other-preserved c =
    leads_next c.args.name.now c.args.parsed.now c.loop-other.other-index c.other-item.result c.other-item.is c.loop-other-test.true c.if-not-is_named.ensures.named c.loop-other.invariant
