use Rattle.std.proofs.Common.{◌≡◌, sym, ap, subst, ◌∙◌, ◌++◌, take, drop}
use Rattle.std.specs.FinMap.{entries}
use Rattle.std.proofs.lemmas.List.{take-append-drop}
use Rattle.ws_register.specs.Nodes.{writes_below, all_nodes}
use Rattle.ws_register.specs.Pages.{Ascends}
use Rattle.ws_register.proofs.Contents.{entries-contents}
use Rattle.ws_register.proofs.Parts.{parts-append, drop-ascends}
use Rattle.ws_register.proofs.Walks.{pass-more}
use Rattle.ws_register.proofs.pages.Pages.iter_from.Goals as goal

pub from-requires : goal.from-requires
from-requires c =
    subst (λ l. Ascends (all_nodes l)) (sym c.split_at.ensures.back) (drop-ascends writes_below c.list-list.result.now c.node_at-at.result c.list-list.ensures.ascends)

pub returns : goal.returns
returns c =
    let nodes = c.list-list.result.now in
    let at = c.node_at-at.result in
    let whole : entries c.args.self.now ≡ all_nodes (take at nodes) ++ all_nodes c.split_at.result.1.now =
    ap entries (sym c.list-list.ensures.held) ∙ entries-contents (all_nodes nodes) c.list-list.ensures.ascends
    ∙ ap all_nodes (sym (take-append-drop at nodes)) ∙ parts-append writes_below (take at nodes) (drop at nodes)
    ∙ ap (λ l. all_nodes (take at nodes) ++ all_nodes l) (sym c.split_at.ensures.back) in
    pass-more (entries c.args.self.now) (all_nodes c.split_at.result.1.now) c.from.result (all_nodes (take at nodes)) c.from.ensures.0 c.args.path.now
    whole c.node_at-at.ensures.below c.from.ensures.1 c.from.ensures.2
