use Rattle.std.proofs.Common.{◌≡◌, ◌++◌, ◌∷◌, [], Some, sym, ap, ◌∙◌}
use Rattle.std.specs.Prelude.{is_some}
use Rattle.ws_board.specs.declared.index.Id.{Id}
use Rattle.ws_board.specs.Indexes.{jobs_of, run_of}
use Rattle.ws_board.proofs.Ids.{jobs_less, reads_still}
use Rattle.ws_board.proofs.Indexing.{popped}
use Rattle.ws_board.proofs.index.leave.Goals as goal

pub returns-in-Some-clause-jobs : goal.returns-in-Some-clause-jobs
returns-in-Some-clause-jobs c =
    let its = c.in-Some.its.now in
    let w : Id = record { jobs = c.pop.new.self; run = its.run } in
    let left : its.jobs.items ≡ c.pop.new.self.items ++ c.args.job ∷ [] = popped its.jobs.items c.pop.new.self.items c.requires.0 c.args.job its.jobs.len (ap jobs_of c.in-Some.ensures.value ∙ c.requires.1) its.jobs.ok.0 c.pop.ensures.rest in
    jobs_less c.args.ids.now (c.get_mut.follows.lender w) c.args.id.now (Some w) ((c.get_mut.follows.holds w).3 (ap is_some (sym c.in-Some.ensures.value))) c.args.job (ap jobs_of (sym c.in-Some.ensures.value) ∙ left)

pub returns-in-Some-clause-runs : goal.returns-in-Some-clause-runs
returns-in-Some-clause-runs c =
    let w : Id = record { jobs = c.pop.new.self; run = c.in-Some.its.now.run } in
    reads_still c.args.ids.now (c.get_mut.follows.lender w) c.args.id.now (Some w) ((c.get_mut.follows.holds w).3 (ap is_some (sym c.in-Some.ensures.value))) run_of (ap run_of c.in-Some.ensures.value)
