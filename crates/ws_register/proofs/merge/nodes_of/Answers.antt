use Rattle.ws_register.specs.Listed.{all_writes}
use Rattle.ws_register.proofs.Parts.{nodes-more}
use Rattle.ws_register.proofs.merge.nodes_of.Goals as goal

pub cut-preserved : goal.cut-preserved
cut-preserved c =
    nodes-more c.cut.nodes.items c.push.new.self.items c.in_ok-of.field-0 c.cut.rest.now c.split_at.result.0.now c.split_at.result.1.now (all_writes c.args.pages.now)
    c.in_ok-push.ensures.items c.in_ok-of.ensures c.split_at.ensures.by_index.0 c.cut.invariant
