use Rattle.std.proofs.Common.{ap, ◌∙◌}
use Rattle.ws_register.specs.Pages.{values}
use Rattle.ws_register.specs.Listed.{writes_of}
use Rattle.ws_register.proofs.Edited.{part_there}
use Rattle.ws_register.proofs.search.writes_at.Goals as goal

pub returns-then-at-pages-clause-page : goal.returns-then-at-pages-clause-page
returns-then-at-pages-clause-page c =
    part_there writes_of c.args.pages.now c.args.at c.index-pages-at.result (values c.writes.result.now) c.if-at-pages.true c.index-pages-at.is
    (ap values c.writes.ensures.same ∙ ap writes_of c.deref.ensures)
