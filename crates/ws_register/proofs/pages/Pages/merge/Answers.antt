use Rattle.std.proofs.Common.{◌∙◌}
use Rattle.ws_register.specs.Nodes.{all_nodes}
use Rattle.ws_register.proofs.Contents.{known-joined, knows-joined, both-joined, joined-ascends}
use Rattle.ws_register.proofs.pages.Pages.merge.Goals as goal

pub of-requires : goal.of-requires
of-requires c = joined-ascends (all_nodes c.list-5.result.now) (all_nodes c.list-6.result.now) (all_nodes c.in_ok-nodes.nodes.items) c.in_ok-nodes.ensures

pub returns-then-are_known-clause-ok : goal.returns-then-are_known-clause-ok
returns-then-are_known-clause-ok c =
    known-joined (all_nodes c.list-2.result.now) (all_nodes c.list.result.now) c.args.self.now c.args.other.now
    c.list-2.ensures.held c.list.ensures.held (c.are_known.ensures c.if-are_known.true)

pub returns-then-are_known-2-clause-ok : goal.returns-then-are_known-2-clause-ok
returns-then-are_known-2-clause-ok c =
    c.branch.view_is ∙ c.in_ok-self-inside.ensures
    ∙ knows-joined (all_nodes c.list-3.result.now) (all_nodes c.list-4.result.now) c.args.self.now c.args.other.now
    c.list-3.ensures.held c.list-4.ensures.held (c.are_known-2.ensures c.if-are_known-2.true)

pub returns-clause-ok : goal.returns-clause-ok
returns-clause-ok c =
    c.branch-2.view_is ∙ c.in_ok-self-inside-2.ensures
    ∙ both-joined (all_nodes c.list-5.result.now) (all_nodes c.list-6.result.now) c.args.self.now c.args.other.now
    c.list-5.ensures.held c.list-6.ensures.held (all_nodes c.in_ok-nodes.nodes.items) c.in_ok-nodes.ensures
