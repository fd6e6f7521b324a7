use Rattle.std.proofs.Common.{◌≡◌, sym, ap, ◌∙◌, ◌++◌, take, drop}
use Rattle.std.specs.Arc.{arc_value}
use Rattle.std.proofs.lemmas.List.{take-append-drop, append_assoc}
use Rattle.ws_register.specs.declared.node.Node.{Node}
use Rattle.ws_register.specs.Listed.{writes_of, all_writes}
use Rattle.ws_register.specs.Nodes.{all_nodes}
use Rattle.ws_register.proofs.Parts.{parts-append}
use Rattle.ws_register.proofs.Walks.{front-ascends}
use Rattle.ws_register.proofs.rest.Rest.from.Goals as goal

pub page_at-requires : goal.page_at-requires
page_at-requires c =
    let pages = c.pages-pages.result.now in
    let others = all_nodes c.in-Some.others.now in
    let same : pages ≡ (arc_value c.in-Some.node.now).pages.items = c.pages-pages.ensures.same ∙ ap (λ (n : Node). n.pages.items) c.deref.ensures in
    front-ascends (all_nodes c.args.nodes.now) (all_writes pages) others
    (ap all_nodes c.in-Some.ensures.cases.0 ∙ ap (λ l. all_writes l ++ others) (sym same)) c.requires

pub returns : goal.returns
returns c =
    let pages = c.pages-pages.result.now in
    let others = all_nodes c.in-Some.others.now in
    let at = c.page_at.result in
    let front = all_writes (take at pages) in
    let same : pages ≡ (arc_value c.in-Some.node.now).pages.items = c.pages-pages.ensures.same ∙ ap (λ (n : Node). n.pages.items) c.deref.ensures in (
      front,
      ap all_nodes c.in-Some.ensures.cases.0 ∙ ap (λ l. all_writes l ++ others) (sym same)
          ∙ ap (λ l. l ++ others) (ap all_writes (sym (take-append-drop at pages)) ∙ parts-append writes_of (take at pages) (drop at pages))
          ∙ append_assoc front (all_writes (drop at pages)) others
          ∙ ap (λ l. front ++ l) (ap (λ l. all_writes l ++ others) (sym c.split_at.ensures.back) ∙ sym c.of-2.ensures),
      c.page_at.ensures.below,
    )
