use Rattle.std.proofs.Common.{◌≤◌, ◌<◌, length, take, get_or, subst, sym, arith}
use Rattle.std.proofs.lemmas.List.{take_more, take_all}
use Rattle.ws_board.specs.Rows.{Adds}
use Rattle.ws_board.proofs.Importing.{adds_none, adds_more}
use Rattle.ws_board.proofs.rows.add_importer.Goals as goal

pub loop-import-init : goal.loop-import-init
loop-import-init c = adds_none c.args.importers.now.items c.args.job

pub loop-import-preserved : goal.loop-import-preserved
loop-import-preserved c =
    let i = c.loop-import.import-index in
    let ks = c.args.imports.now in
    let inside : i < length ks = omega arith in
    subst (λ l. Adds c.args.importers.now.items c.add_to.new.importers.items l c.args.job) (sym (take_more ks i 0 inside))
    (adds_more c.loop-import.importers.items c.add_to.new.importers.items (get_or ks i 0) c.args.job c.in_ok-add_to.ensures c.args.importers.now.items (take i ks) c.loop-import.invariant)

pub returns : goal.returns
returns c =
    let ks = c.args.imports.now in
    let past : length ks ≤ c.loop-import.import-index = omega arith in
    subst (λ l. Adds c.args.importers.now.items c.loop-import.importers.items l c.args.job) (take_all c.loop-import.import-index ks past) c.loop-import.invariant
