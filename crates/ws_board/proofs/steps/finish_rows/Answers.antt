use Rattle.std.proofs.Common.{◌∙◌, ◌++◌, ap}
use Rattle.ws_board.specs.Rows.{times, those_of}
use Rattle.ws_board.specs.Indexes.{jobs_in}
use Rattle.ws_board.proofs.Indexing.{same_none}
use Rattle.ws_board.proofs.steps.finish_rows.Goals as goal

pub carried-requires-clause-jobs : goal.carried-requires-clause-jobs
carried-requires-clause-jobs c = λ k. ap (times k) c.jobs.ensures ∙ c.requires.jobs k

pub returns-in_err-carried-clause-same : goal.returns-in_err-carried-clause-same
returns-in_err-carried-clause-same c = same_none c.args.index.now

pub returns-clause-joined : goal.returns-clause-joined
returns-clause-joined c = λ i. c.in_ok-admit.ensures.ok i ∙ ap (λ l. jobs_in c.args.index.now i ++ those_of i l) c.ready.ensures
