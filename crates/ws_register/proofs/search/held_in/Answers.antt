use Rattle.std.proofs.Common.{sym, ap, ◌∙◌, ◌+◌, take, drop}
use Rattle.std.specs.FinMap.{find}
use Rattle.ws_version.specs.Writes.{path_cmp}
use Rattle.ws_register.specs.Listed.{all_writes}
use Rattle.ws_register.specs.Nodes.{all_nodes}
use Rattle.ws_register.proofs.Edited.{find-middle, middle-ascends}
use Rattle.ws_register.proofs.search.held_in.Goals as goal

pub held_on-requires : goal.held_on-requires
held_on-requires c =
    let nodes = c.args.nodes.now in
    let at = c.node_at-at.result in
    middle-ascends (all_nodes nodes) (all_nodes (take at nodes)) (all_writes c.pages_at.result.now) (all_nodes (drop (at + 1) nodes)) c.pages_at.ensures.node c.requires

pub returns : goal.returns
returns c =
    let nodes = c.args.nodes.now in
    let at = c.node_at-at.result in
    c.held_on.ensures
    ∙ sym (find-middle (all_nodes (take at nodes)) (all_writes c.pages_at.result.now) (all_nodes (drop (at + 1) nodes)) c.args.path.now c.node_at-at.ensures.below c.node_at-at.ensures.above)
    ∙ ap (find path_cmp c.args.path.now) (sym c.pages_at.ensures.node)
