use Rattle.std.proofs.Common.{Some, refl, sym, ap}
use Rattle.std.specs.Prelude.{is_some}
use Rattle.ws_board.specs.declared.index.Id.{Id}
use Rattle.ws_board.specs.Indexes.{jobs_of, run_of}
use Rattle.ws_board.proofs.Ids.{reads_so, reads_still}
use Rattle.ws_board.proofs.index.set_run.Goals as goal

pub returns-in-Some-clause-jobs : goal.returns-in-Some-clause-jobs
returns-in-Some-clause-jobs c =
    let w : Id = record { jobs = c.in-Some.its.now.jobs; run = c.args.run } in
    reads_still c.args.ids.now (c.get_mut.follows.lender w) c.args.id.now (Some w) ((c.get_mut.follows.holds w).3 (ap is_some (sym c.in-Some.ensures.value))) jobs_of (ap jobs_of c.in-Some.ensures.value)

pub returns-in-Some-clause-runs : goal.returns-in-Some-clause-runs
returns-in-Some-clause-runs c =
    let w : Id = record { jobs = c.in-Some.its.now.jobs; run = c.args.run } in
    reads_so c.args.ids.now (c.get_mut.follows.lender w) c.args.id.now (Some w) ((c.get_mut.follows.holds w).3 (ap is_some (sym c.in-Some.ensures.value))) run_of c.args.run refl
