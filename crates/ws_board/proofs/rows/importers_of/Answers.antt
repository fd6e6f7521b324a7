use Rattle.std.proofs.Common.{◌<◌, ◌≡◌, length, subst, arith}
use Rattle.ws_board.specs.Rows.{Adds, AreImporters}
use Rattle.ws_board.proofs.Importing.{importers_none, importers_more}
use Rattle.ws_board.proofs.rows.importers_of.Goals as goal

pub loop-job-init : goal.loop-job-init
loop-job-init c = importers_none c.args.jobs.now c.in_ok-importers.importers.items c.in_ok-importers.ensures

pub loop-job-preserved : goal.loop-job-preserved
loop-job-preserved c =
    let n = c.loop-job.job in
    let inside : n < length c.args.jobs.now = omega arith in
    importers_more c.args.jobs.now n c.loop-job.importers.items c.add_importer.new.importers.items inside c.loop-job.invariant
    (subst (λ l. Adds c.loop-job.importers.items c.add_importer.new.importers.items l n) c.imports_of.ensures c.in_ok-add_importer.ensures)

pub returns : goal.returns
returns c =
    let n : c.loop-job.job ≡ length c.args.jobs.now = omega arith in
    subst (λ i. AreImporters c.args.jobs.now i c.loop-job.importers.items) n c.loop-job.invariant
