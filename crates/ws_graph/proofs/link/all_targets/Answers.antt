use Rattle.ws_graph.specs.Node.{planned_of}
use Rattle.ws_graph.specs.Discovery.{AreTargetsOf, string_texts}
use Rattle.ws_graph.proofs.Places.{zip_next}
use Rattle.ws_graph.proofs.link.all_targets.Goals as goal

pub loop-found-preserved : goal.loop-found-preserved
loop-found-preserved c =
    zip_next (λ found targets. AreTargetsOf (string_texts c.args.paths.now) (planned_of found.node) targets.items) c.args.founds.now c.loop-found.found-index c.found-item.result c.loop-found.all.items c.push.new.self.items c.in_ok-targets_of.field-0
    c.found-item.is c.loop-found-test.true c.in_ok-push.ensures.items c.loop-found.invariant c.in_ok-targets_of.ensures
