use Rattle.std.proofs.Common.{◌≡◌, ◌++◌, sym, subst}
use Rattle.std.specs.Arc.{arc_value}
use Rattle.ws_register.specs.Listed.{writes_of}
use Rattle.ws_register.specs.Pages.{values, Ascends, AllPathsBelow}
use Rattle.ws_register.proofs.Walks.{front-ascends, first_page, empty_values}
use Rattle.ws_register.proofs.rest.Rest.next_page_below.Goals as goal

pub returns : goal.returns
returns c =
    let page = writes_of (arc_value c.in_ok-page.page.now) in
    let left = values c.self.inside.writes.now ++ c.in_ok-page.pages in
    let cut : c.args.self.now ≡ page ++ left =
    first_page c.args.self.now c.self.inside.writes.now c.self.inside.pages page c.in_ok-page.pages
    (empty_values c.self.inside.writes.now c.is_empty.result c.is_empty.ensures c.if-not-is_empty.false) c.in_ok-page.ensures c.self.view_is in
    let ascends : Ascends page = front-ascends c.args.self.now page left cut c.requires in (
      cut,
      subst (λ p. AllPathsBelow (writes_of p) c.args.path.now) c.deref.ensures
          (c.ends_below.ensures c.if-not-ends_below.false (subst (λ p. Ascends (writes_of p)) (sym c.deref.ensures) ascends)),
    )
