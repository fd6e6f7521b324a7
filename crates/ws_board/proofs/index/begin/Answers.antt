use Rattle.std.proofs.Common.{◌++◌, ◌∷◌, [], Some, None, sym, ap, ◌∙◌}
use Rattle.ws_board.specs.declared.index.Id.{Id}
use Rattle.ws_board.specs.Indexes.{jobs_of, run_of}
use Rattle.ws_board.proofs.Ids.{reads_so, reads_still}
use Rattle.ws_board.proofs.index.begin.Goals as goal

pub returns-clause-ok : goal.returns-clause-ok
returns-clause-ok c =
    let w : Id = record { jobs = c.push.new.self; run = None } in
    reads_so c.args.ids.now c.insert.new.self c.args.id (Some w) c.in_ok-insert.ensures.updates jobs_of (c.args.job ∷ []) (c.in_ok-push.ensures.items ∙ ap (λ l. l ++ c.args.job ∷ []) c.new-jobs.ensures.items)

pub returns-clause-runs : goal.returns-clause-runs
returns-clause-runs c =
    let w : Id = record { jobs = c.push.new.self; run = None } in
    reads_still c.args.ids.now c.insert.new.self c.args.id (Some w) c.in_ok-insert.ensures.updates run_of (ap run_of (sym c.requires))
