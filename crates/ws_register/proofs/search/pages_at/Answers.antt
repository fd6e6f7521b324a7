use Rattle.std.proofs.Common.{ap, ◌∙◌}
use Rattle.ws_register.specs.Listed.{all_writes}
use Rattle.ws_register.specs.Nodes.{writes_below}
use Rattle.ws_register.proofs.Edited.{part_there}
use Rattle.ws_register.proofs.search.pages_at.Goals as goal

pub returns-then-at-nodes-clause-node : goal.returns-then-at-nodes-clause-node
returns-then-at-nodes-clause-node c =
    part_there writes_below c.args.nodes.now c.args.at c.index-nodes-at.result (all_writes c.pages.result.now) c.if-at-nodes.true c.index-nodes-at.is
    (ap all_writes c.pages.ensures.same ∙ ap writes_below c.deref.ensures)
