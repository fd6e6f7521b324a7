use Rattle.std.proofs.Common.{◌≡◌, ◌++◌, ◌∷◌, [], ℕ, List, Some, sym, ap, ◌∙◌}
use Rattle.std.specs.Prelude.{is_some}
use Rattle.ws_board.specs.declared.index.Id.{Id}
use Rattle.ws_board.specs.Indexes.{id_in, jobs_of, run_of}
use Rattle.ws_board.proofs.Ids.{reads_so, reads_still}
use Rattle.ws_board.proofs.Indexing.{on_err}
use Rattle.ws_board.proofs.index.join.Goals as goal

pub returns-in_err-push-clause-err : goal.returns-in_err-push-clause-err
returns-in_err-push-clause-err c =
    let w : Id = record { jobs = c.push.new.self; run = c.in-Some.its.now.run } in
    let n = c.get_mut.follows.lender w in
    on_err ((other : List ℕ) → jobs_of (id_in n.entries other) ≡ jobs_of (id_in c.args.ids.now.entries other)) c.from_residual.result
    (reads_still c.args.ids.now n c.args.id.now (Some w) ((c.get_mut.follows.holds w).3 (ap is_some (sym c.in-Some.ensures.value))) jobs_of (c.in_err-push.ensures.items ∙ ap jobs_of c.in-Some.ensures.value))

pub returns-in_err-push-clause-runs : goal.returns-in_err-push-clause-runs
returns-in_err-push-clause-runs c =
    let w : Id = record { jobs = c.push.new.self; run = c.in-Some.its.now.run } in
    reads_still c.args.ids.now (c.get_mut.follows.lender w) c.args.id.now (Some w) ((c.get_mut.follows.holds w).3 (ap is_some (sym c.in-Some.ensures.value))) run_of (ap run_of c.in-Some.ensures.value)

pub returns-in_ok-push-clause-ok : goal.returns-in_ok-push-clause-ok
returns-in_ok-push-clause-ok c =
    let w : Id = record { jobs = c.push.new.self; run = c.in-Some.its.now.run } in
    reads_so c.args.ids.now (c.get_mut.follows.lender w) c.args.id.now (Some w) ((c.get_mut.follows.holds w).3 (ap is_some (sym c.in-Some.ensures.value))) jobs_of (jobs_of (id_in c.args.ids.now.entries c.args.id.now) ++ c.args.job ∷ [])
    (c.in_ok-push.ensures.items ∙ ap (λ o. jobs_of o ++ c.args.job ∷ []) c.in-Some.ensures.value)

pub returns-in_ok-push-clause-runs : goal.returns-in_ok-push-clause-runs
returns-in_ok-push-clause-runs c =
    let w : Id = record { jobs = c.push.new.self; run = c.in-Some.its.now.run } in
    reads_still c.args.ids.now (c.get_mut.follows.lender w) c.args.id.now (Some w) ((c.get_mut.follows.holds w).3 (ap is_some (sym c.in-Some.ensures.value))) run_of (ap run_of c.in-Some.ensures.value)
