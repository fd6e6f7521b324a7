use Rattle.std.proofs.Common.{sym, ap, ◌∙◌, Some}
use Rattle.ws_register.specs.Pages.{values}
use Rattle.ws_register.proofs.Places.{find-there, find-nowhere, held_there}
use Rattle.ws_register.proofs.search.held_at.Goals as goal

pub returns-in-Ok : goal.returns-in-Ok
returns-in-Ok c =
    let found = c.in-Ok.ensures.found in
    ap Some (c.held.ensures ∙ held_there c.args.writes.now c.in-Ok.at c.deref.result.now c.index-writes-at.result c.args.path.now found.0 c.deref.ensures c.index-writes-at.is found.1)
    ∙ sym (find-there (values c.args.writes.now) c.in-Ok.at c.args.path.now found.0 c.requires found.1)

pub returns-in-Err : goal.returns-in-Err
returns-in-Err c = sym (find-nowhere (values c.args.writes.now) c.in-Err.field-0 c.args.path.now c.in-Err.ensures.below c.in-Err.ensures.above)
