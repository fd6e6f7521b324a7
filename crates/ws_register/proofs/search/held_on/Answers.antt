use Rattle.std.proofs.Common.{sym, ap, ◌∙◌, ◌+◌, take, drop}
use Rattle.std.specs.FinMap.{find}
use Rattle.ws_version.specs.Writes.{path_cmp}
use Rattle.ws_register.specs.Listed.{all_writes}
use Rattle.ws_register.specs.Pages.{values}
use Rattle.ws_register.proofs.Edited.{find-middle, middle-ascends}
use Rattle.ws_register.proofs.search.held_on.Goals as goal

pub held_at-requires : goal.held_at-requires
held_at-requires c =
    let pages = c.args.pages.now in
    let at = c.page_at-at.result in
    middle-ascends (all_writes pages) (all_writes (take at pages)) (values c.writes_at.result.now) (all_writes (drop (at + 1) pages)) c.writes_at.ensures.page c.requires

pub returns : goal.returns
returns c =
    let pages = c.args.pages.now in
    let at = c.page_at-at.result in
    c.held_at.ensures
    ∙ sym (find-middle (all_writes (take at pages)) (values c.writes_at.result.now) (all_writes (drop (at + 1) pages)) c.args.path.now c.page_at-at.ensures.below c.page_at-at.ensures.above)
    ∙ ap (find path_cmp c.args.path.now) (sym c.writes_at.ensures.page)
