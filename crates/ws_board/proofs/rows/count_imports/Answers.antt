use Rattle.std.proofs.Common.{◌≡◌, take, ap, arith}
use Rattle.std.proofs.lemmas.List.{take_all}
use Rattle.ws_board.specs.Rows.{import_count}
use Rattle.ws_board.proofs.rows.count_imports.Goals as goal

pub returns-clause-fits : goal.returns-clause-fits
returns-clause-fits c =
    let p = c.loop-job.invariant in
    let i = c.loop-job.job-index in
    let e : import_count (take i c.args.jobs.now) ≡ import_count c.args.jobs.now = ap import_count (take_all i c.args.jobs.now (omega arith)) in
    omega (arith, p.is, p.fits, e)
