use Rattle.std.proofs.Common.{sym, ap, ◌∙◌}
use Rattle.std.specs.FinMap.{entries, entries_sorted}
use Rattle.ws_register.proofs.Walks.{still-ascends}
use Rattle.ws_register.specs.Sources.{texts_of, files_in}
use Rattle.ws_register.proofs.Ends.{files_from, from_start}
use Rattle.ws_register.proofs.files_of.Goals as goal

pub files_before-requires-clause-ascends : goal.files_before-requires-clause-ascends
files_before-requires-clause-ascends c =
    let walk = c.walk_from.ensures in
    still-ascends (entries c.args.held.now) walk.0 c.walk_from.result walk.1 (entries_sorted c.args.held.now)

pub returns : goal.returns
returns c =
    let walk = c.walk_from.ensures in
    let dir = c.args.directory.now in
    c.in_ok-files.ensures
    ∙ sym (files_from dir c.in_ok-start.start walk.0 c.walk_from.result (from_start dir c.in_ok-start.start c.in_ok-start.end c.in_ok-start.ensures) walk.2)
    ∙ ap (λ ws. files_in dir (texts_of ws)) (sym walk.1)
