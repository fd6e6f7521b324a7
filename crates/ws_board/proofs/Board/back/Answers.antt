use Rattle.std.proofs.Common.{ℕ, List, ◌∙◌, ◌≡◌, ◌≢◌, ◌<◌, ◌∷◌, ◌++◌, [], None, true, eqb, arith, ap, subst, sym, refl, length, count_by}
use Rattle.std.proofs.Math.ListN.{set}
use Rattle.std.specs.Prelude.{if◌then◌else◌}
use Rattle.std.specs.List.{list_any}
use Rattle.ws_action.specs.Actions.{Action, action_id}
use Rattle.ws_board.specs.declared.work.JobStatus.TheVariants.{Ready}
use Rattle.ws_board.specs.declared.work.Event.TheVariants.{Back}
use Rattle.ws_board.specs.declared.table.Row.{Row}
use Rattle.ws_board.specs.Work.{Job, JobStates, Opening, BoardState, Seen}
use Rattle.ws_board.specs.Machine.{IsRunWith, BoardStep, IsHistory, stood}
use Rattle.ws_board.specs.Rows.{import_count, is_back, IsPaid}
use Rattle.ws_board.specs.Table.{row_at, job_states_of}
use Rattle.ws_board.specs.Indexes.{id_in, jobs_in, is_free_in, ChangesIndex, Agrees}
use Rattle.ws_board.proofs.Histories.{history_more}
use Rattle.ws_board.proofs.Boarding.{moved, within}
use Rattle.ws_board.proofs.Taking.{listed_inside, back_stood, back_good, back_waits, back_kept, back_some, back_inside, back_knows, back_pays, back_agrees}
use Rattle.ws_board.proofs.Board.back.Goals as goal

pub stop-requires-clause-kept : goal.stop-requires-clause-kept
stop-requires-clause-kept c =
    let b = c.self.inside in
    let job = c.args.task.job in
    let R = b.rows.rows in
    let by : IsRunWith (job_states_of R) c.args.hand.now job (action_id c.args.task.action) = subst (λ (v : Seen). IsRunWith v.state.standings c.args.hand.now job (action_id c.args.task.action)) (sym c.self.view_is) c.requires in
    let action : Action = by.action in
    let row : Row = record (row_at R job) { status = Ready; was_back = true } in
    subst (λ i. id_in b.index.ids.entries i ≢ None) (by.its ∙ sym c.id.ensures)
    (back_kept b.rows.jobs.items b.rows.importers.items R (set R job row) b.index b.index job c.args.hand.now action c.self.invariant.1 c.self.invariant.3 by.run refl)

pub stop-requires-clause-inside : goal.stop-requires-clause-inside
stop-requires-clause-inside c = listed_inside c.self.inside.rows.rows c.self.inside.index c.self.invariant.3 c.id.result

pub stop-requires-clause-some : goal.stop-requires-clause-some
stop-requires-clause-some c =
    let b = c.self.inside in
    let job = c.args.task.job in
    let R = b.rows.rows in
    let by : IsRunWith (job_states_of R) c.args.hand.now job (action_id c.args.task.action) = subst (λ (v : Seen). IsRunWith v.state.standings c.args.hand.now job (action_id c.args.task.action)) (sym c.self.view_is) c.requires in
    let action : Action = by.action in
    let row : Row = record (row_at R job) { status = Ready; was_back = true } in
    back_some b.rows.jobs.items b.rows.importers.items R (set R job row) b.index b.index job c.args.hand.now action c.self.invariant.1 c.self.invariant.3 by.run refl

pub give_back-requires : goal.give_back-requires
give_back-requires c =
    let b = c.self.inside in
    let job = c.args.task.job in
    let R = b.rows.rows in
    let by : IsRunWith (job_states_of R) c.args.hand.now job (action_id c.args.task.action) = subst (λ (v : Seen). IsRunWith v.state.standings c.args.hand.now job (action_id c.args.task.action)) (sym c.self.view_is) c.requires in
    let action : Action = by.action in
    let row : Row = record (row_at R job) { status = Ready; was_back = true } in
    subst (λ k. k < length R) (sym c.spend-job.ensures)
    (back_inside b.rows.jobs.items b.rows.importers.items R (set R job row) b.index b.index job c.args.hand.now action c.self.invariant.1 c.self.invariant.3 by.run refl)

pub invariant_of-self : goal.invariant_of-self
invariant_of-self c =
    let b = c.self.inside in
    let hand = c.args.hand.now in
    let job = c.args.task.job in
    let J = b.rows.jobs.items in
    let I = b.rows.importers.items in
    let R = b.rows.rows in
    let K = c.give_back.new.self.jobs.items in
    let L = c.give_back.new.self.importers.items in
    let N = c.give_back.new.self.rows in
    let index = c.stop.new.self in
    let all = c.push_reserved.new.self.items in
    let opening : Opening = record { jobs = J; cache = b.opened } in
    let now : BoardState = record { standings = job_states_of R; added = b.added } in
    let new : BoardState = record { standings = stood (job_states_of R) job Ready; added = b.added } in
    let by : IsRunWith (job_states_of R) hand job (action_id c.args.task.action) = subst (λ (v : Seen). IsRunWith v.state.standings hand job (action_id c.args.task.action)) (sym c.self.view_is) c.requires in
    let action : Action = by.action in
    let written : N ≡ set R job (record (row_at R job) { status = Ready; was_back = true }) = c.give_back.ensures.rows ∙ ap (λ (k : ℕ). set R k (record (row_at R k) { status = Ready; was_back = true })) c.spend-job.ensures in
    let pushed : all ≡ b.history.items ++ Back hand job ∷ [] =
    c.push_reserved.ensures.items ∙ ap (λ (h : ℕ). b.history.items ++ Back h c.spend-job.result ∷ []) c.number.ensures ∙ ap (λ (j : ℕ). b.history.items ++ Back hand j ∷ []) c.spend-job.ensures in
    let step : BoardStep opening now (Back hand job) new = (action, by.run, refl) in
    let legal : IsHistory opening all new = history_more opening b.history.items all now (Back hand job) new c.self.invariant.0 step pushed in
    let changes : ChangesIndex b.index index (action_id action) (jobs_in b.index (action_id action)) None = subst (λ i. ChangesIndex b.index index i (jobs_in b.index i) None) (c.id.ensures ∙ sym by.its) c.stop.ensures.changes in
    let agrees : Agrees N index =
    back_agrees J I R N b.index index job hand action c.self.invariant.1 c.self.invariant.3 by.run written changes
    (λ j. c.stop.ensures.free j ∙ ap (λ i. if list_any (λ k. eqb k j) (jobs_in b.index i) then true else is_free_in b.index j) (c.id.ensures ∙ sym by.its))
    c.stop.ensures.len c.stop.ensures.running in
    let paid : IsPaid b.looks N (import_count J) (count_by is_back all) = back_pays J I R N b.index index job hand action c.self.invariant.1 c.self.invariant.3 by.run written b.looks (import_count J) b.history.items all hand pushed c.self.invariant.5 in
    let parts =
    moved J K I L N b.opened b.added all (stood (job_states_of R) job Ready) b.looks (count_by is_back all) c.give_back.ensures.jobs c.give_back.ensures.importers
    (back_stood J I R N b.index index job hand action c.self.invariant.1 c.self.invariant.3 by.run written) legal
    (back_good J I R N b.index index job hand action c.self.invariant.1 c.self.invariant.3 by.run written)
    (back_waits J I R N b.index index job hand action c.self.invariant.1 c.self.invariant.3 by.run written c.self.invariant.2) paid in (
      parts.0,
      parts.1,
      parts.2,
      agrees,
      back_knows J I R N b.index index job hand action c.self.invariant.1 c.self.invariant.3 by.run written b.history.items all hand pushed c.self.invariant.4,
      parts.3,
      omega (arith, agrees.running, c.self.invariant.3.running, c.stop.ensures.running, c.self.invariant.6, c.push_reserved.ensures.len, c.push_reserved.ensures.capacity),
    )

pub returns-clause-step : goal.returns-clause-step
returns-clause-step c =
    let b = c.self.inside in
    let hand = c.args.hand.now in
    let job = c.args.task.job in
    let J = b.rows.jobs.items in
    let R = b.rows.rows in
    let N = c.give_back.new.self.rows in
    let all = c.push_reserved.new.self.items in
    let by : IsRunWith (job_states_of R) hand job (action_id c.args.task.action) = subst (λ (v : Seen). IsRunWith v.state.standings hand job (action_id c.args.task.action)) (sym c.self.view_is) c.requires in
    let action : Action = by.action in
    let written : N ≡ set R job (record (row_at R job) { status = Ready; was_back = true }) = c.give_back.ensures.rows ∙ ap (λ (k : ℕ). set R k (record (row_at R k) { status = Ready; was_back = true })) c.spend-job.ensures in
    let pushed : all ≡ b.history.items ++ Back hand job ∷ [] =
    c.push_reserved.ensures.items ∙ ap (λ (h : ℕ). b.history.items ++ Back h c.spend-job.result ∷ []) c.number.ensures ∙ ap (λ (j : ℕ). b.history.items ++ Back hand j ∷ []) c.spend-job.ensures in
    let stands = back_stood J b.rows.importers.items R N b.index b.index job hand action c.self.invariant.1 c.self.invariant.3 by.run written in
    rw (← c.self.view_is) (record {
      step = (action, by.run, ap (λ (s : JobStates). let new : BoardState = record { standings = s; added = b.added } in new) stands);
      history = pushed;
      opening = ap (λ (jobs : List Job). let opening : Opening = record { jobs = jobs; cache = b.opened } in opening) c.give_back.ensures.jobs;
    })

pub returns-clause-looks : goal.returns-clause-looks
returns-clause-looks c =
    let b = c.self.inside in
    let hand = c.args.hand.now in
    let job = c.args.task.job in
    let J = b.rows.jobs.items in
    let I = b.rows.importers.items in
    let R = b.rows.rows in
    let N = c.give_back.new.self.rows in
    let all = c.push_reserved.new.self.items in
    let by : IsRunWith (job_states_of R) hand job (action_id c.args.task.action) = subst (λ (v : Seen). IsRunWith v.state.standings hand job (action_id c.args.task.action)) (sym c.self.view_is) c.requires in
    let action : Action = by.action in
    let written : N ≡ set R job (record (row_at R job) { status = Ready; was_back = true }) = c.give_back.ensures.rows ∙ ap (λ (k : ℕ). set R k (record (row_at R k) { status = Ready; was_back = true })) c.spend-job.ensures in
    let pushed : all ≡ b.history.items ++ Back hand job ∷ [] =
    c.push_reserved.ensures.items ∙ ap (λ (h : ℕ). b.history.items ++ Back h c.spend-job.result ∷ []) c.number.ensures ∙ ap (λ (j : ℕ). b.history.items ++ Back hand j ∷ []) c.spend-job.ensures in
    within J c.give_back.new.self.jobs.items I N b.looks (count_by is_back all) c.give_back.ensures.jobs
    (back_good J I R N b.index b.index job hand action c.self.invariant.1 c.self.invariant.3 by.run written)
    (back_pays J I R N b.index b.index job hand action c.self.invariant.1 c.self.invariant.3 by.run written b.looks (import_count J) b.history.items all hand pushed c.self.invariant.5)
