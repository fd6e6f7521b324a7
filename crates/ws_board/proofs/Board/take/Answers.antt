use Rattle.std.proofs.Common.{ℕ, List, ◌∙◌, ◌≡◌, ◌≢◌, ◌+◌, ◌≤◌, ◌<◌, ◌∷◌, ◌++◌, [], None, Some, false, eqb, arith, ap, subst, sym, refl, rules, vec_len, vec_capacity, length, count_by}
use Rattle.std.proofs.Math.ListN.{set}
use Rattle.std.specs.Prelude.{if◌then◌else◌}
use Rattle.std.specs.List.{list_any}
use Rattle.ws_action.specs.Actions.{Action, action_id}
use Rattle.ws_board.specs.declared.work.JobStatus.TheVariants.{Running}
use Rattle.ws_board.specs.declared.work.Event.TheVariants.{Take, Idle}
use Rattle.ws_board.specs.Work.{Job, Task, JobStates, Opening, BoardState, Seen}
use Rattle.ws_board.specs.Machine.{action_at, is_running, IsRunBy, IsIdle, BoardStep, IsHistory, stood}
use Rattle.ws_board.specs.Calls.{Happens, GivesTask, SomeRuns}
use Rattle.ws_board.specs.Rows.{import_count, is_back, IsPaid}
use Rattle.ws_board.specs.Table.{row_at, job_states_of}
use Rattle.ws_board.specs.Indexes.{id_in, jobs_in, is_free_in, ChangesIndex, Agrees}
use Rattle.ws_board.proofs.Histories.{history_more, ready_has}
use Rattle.ws_board.proofs.Idle.{idle_is}
use Rattle.ws_board.proofs.Own.{own_comes}
use Rattle.ws_board.proofs.Sounds.{history_keeps}
use Rattle.ws_board.proofs.Standing.{action_row}
use Rattle.ws_board.proofs.Stepping.{counted_some}
use Rattle.ws_board.proofs.Boarding.{reads_fit, still_backs, still_paid, moved, within, none_runs_of, not_running, backs_few}
use Rattle.ws_board.proofs.Taking.{few_run, free_job, free_inside, listed_inside, one_more_runs, none_free, first_least, take_kept, take_free, take_stood, taken_run, take_good, take_waits, take_backs, take_paid, take_agrees}
use Rattle.ws_board.proofs.Board.take.Goals as goal

-- ---- nothing may be given

pub invariant_of-self-in_default : goal.invariant_of-self-in_default
invariant_of-self-in_default c =
    let b = c.self.inside in
    let J = b.rows.jobs.items in
    let R = b.rows.rows in
    let all = c.push.new.self.items in
    let opening : Opening = record { jobs = J; cache = b.opened } in
    let now : BoardState = record { standings = job_states_of R; added = b.added } in
    let none : count_by is_running (job_states_of R).statuses ≡ 0 = sym c.self.invariant.3.running ∙ not_running c.any_running.result b.index.running c.any_running.ensures c.if-any_running.false in
    let still = none_runs_of R none in
    let idle : IsIdle now.standings.statuses = idle_is now.standings (ready_has opening b.history.items now c.self.invariant.0) (none_free R b.index c.self.invariant.3 c.in_default.ensures.none) still in
    let pushed : all ≡ b.history.items ++ Idle c.number.result ∷ [] = search rules in
    let room : vec_len c.push.new.self ≤ vec_capacity c.push.new.self = search rules in (
      history_more opening b.history.items all now (Idle c.number.result) now c.self.invariant.0 (idle, refl) pushed,
      c.self.invariant.1,
      c.self.invariant.2,
      c.self.invariant.3,
      still_backs R R b.history.items all (Idle c.number.result) refl (λ k. refl) pushed (λ k. refl) c.self.invariant.4,
      still_paid b.looks b.looks R R (import_count J) b.history.items all (Idle c.number.result) refl (omega arith) (omega arith) pushed refl c.self.invariant.5,
      omega (arith, room, none),
    )

pub returns-in_default-clause-step : goal.returns-in_default-clause-step
returns-in_default-clause-step c =
    let b = c.self.inside in
    let J = b.rows.jobs.items in
    let R = b.rows.rows in
    let all = c.push.new.self.items in
    let opening : Opening = record { jobs = J; cache = b.opened } in
    let now : BoardState = record { standings = job_states_of R; added = b.added } in
    let none : count_by is_running (job_states_of R).statuses ≡ 0 = sym c.self.invariant.3.running ∙ not_running c.any_running.result b.index.running c.any_running.ensures c.if-any_running.false in
    let still = none_runs_of R none in
    let idle : IsIdle now.standings.statuses = idle_is now.standings (ready_has opening b.history.items now c.self.invariant.0) (none_free R b.index c.self.invariant.3 c.in_default.ensures.none) still in
    let pushed : all ≡ b.history.items ++ Idle c.number.result ∷ [] = search rules in
    rw (← c.self.view_is) (record { step = (idle, refl); history = pushed ∙ ap (λ (h : ℕ). b.history.items ++ Idle h ∷ []) c.number.ensures; opening = refl })

pub returns-in_default-clause-looks : goal.returns-in_default-clause-looks
returns-in_default-clause-looks c =
    let b = c.self.inside in
    let J = b.rows.jobs.items in
    let R = b.rows.rows in
    let all = c.push.new.self.items in
    let pushed : all ≡ b.history.items ++ Idle c.number.result ∷ [] = search rules in
    within J J b.rows.importers.items R b.looks (count_by is_back all) refl c.self.invariant.1
    (still_paid b.looks b.looks R R (import_count J) b.history.items all (Idle c.number.result) refl (omega arith) (omega arith) pushed refl c.self.invariant.5)

pub returns-then-any_running-clause-step : goal.returns-then-any_running-clause-step
returns-then-any_running-clause-step c =
    let b = c.self.inside in
    let R = b.rows.rows in
    let some : SomeRuns (job_states_of R).statuses = counted_some (job_states_of R).statuses (subst (λ n. 0 < n) c.self.invariant.3.running (c.any_running.ensures.0 c.if-any_running.true)) in
    rw (← c.self.view_is) (none_free R b.index c.self.invariant.3 c.in_default.ensures.none, some, refl)

-- ---- a job is given

pub given-requires-clause-counted : goal.given-requires-clause-counted
given-requires-clause-counted c =
    let b = c.self.inside in
    let fits = reads_fit b.looks b.rows.rows (import_count b.rows.jobs.items) (count_by is_back b.history.items) c.self.invariant.5
    (omega (arith, c.self.invariant.1.known.jobs, b.rows.jobs.ok.0, b.rows.jobs.ok.1, b.rows.jobs.small)) c.self.invariant.1.known.fits (omega (arith, backs_few b.history.items, b.history.ok.0, b.history.ok.1, b.history.small)) in
    omega (arith, fits)

pub given-requires-clause-jobs : goal.given-requires-clause-jobs
given-requires-clause-jobs c = c.self.invariant.1.known.jobs

pub given-requires-clause-inside : goal.given-requires-clause-inside
given-requires-clause-inside c = free_inside c.self.inside.rows.rows c.self.inside.index c.self.invariant.3 c.in-Some.k c.in-Some.ensures.some

pub given-requires-clause-formed : goal.given-requires-clause-formed
given-requires-clause-formed c =
    let j = free_job c.self.inside.rows.rows c.self.inside.index c.self.invariant.3 c.in-Some.k c.in-Some.ensures.some in
    (j.0, j.2)

pub run-requires-clause-kept : goal.run-requires-clause-kept
run-requires-clause-kept c =
    let b = c.self.inside in
    let R = b.rows.rows in
    let k = c.in-Some.k in
    subst (λ i. id_in b.index.ids.entries i ≢ None) (sym c.id.ensures)
    (take_kept b.rows.jobs.items b.rows.importers.items R (set R k (record (row_at R k) { status = Running 0 })) b.index b.index k 0 c.in-Ok.task.action c.self.invariant.1 c.self.invariant.3 c.in-Some.ensures.some c.in-Ok.ensures.action refl)

pub run-requires-clause-inside : goal.run-requires-clause-inside
run-requires-clause-inside c = listed_inside c.self.inside.rows.rows c.self.inside.index c.self.invariant.3 c.id.result

pub run-requires-clause-room : goal.run-requires-clause-room
run-requires-clause-room c =
    let b = c.self.inside in
    one_more_runs b.rows.rows b.index c.self.invariant.3 (omega (arith, c.self.invariant.1.known.jobs, b.rows.jobs.ok.0, b.rows.jobs.ok.1, b.rows.jobs.small))

pub run-requires-in-Ok : goal.run-requires-in-Ok
run-requires-in-Ok c = free_inside c.self.inside.rows.rows c.self.inside.index c.self.invariant.3 c.in-Some.k c.in-Some.ensures.some

pub invariant_of-self-in-Ok : goal.invariant_of-self-in-Ok
invariant_of-self-in-Ok c =
    let b = c.self.inside in
    let k = c.in-Some.k in
    let hand = c.args.hand.now in
    let a : Action = c.in-Ok.task.action in
    let J = b.rows.jobs.items in
    let I = b.rows.importers.items in
    let R = b.rows.rows in
    let K = c.run-in-Ok.new.self.jobs.items in
    let L = c.run-in-Ok.new.self.importers.items in
    let N = c.run-in-Ok.new.self.rows in
    let index = c.run.new.self in
    let all = c.push_reserved.new.self.items in
    let free = c.in-Some.ensures.some in
    let its = c.in-Ok.ensures.action in
    let opening : Opening = record { jobs = J; cache = b.opened } in
    let now : BoardState = record { standings = job_states_of R; added = b.added } in
    let new : BoardState = record { standings = stood (job_states_of R) k (Running hand); added = b.added } in
    let written : N ≡ set R k (record (row_at R k) { status = Running hand }) = c.run-in-Ok.ensures.rows ∙ ap (λ (h : ℕ). set R k (record (row_at R k) { status = Running h })) c.number-in-Ok-2.ensures in
    let pushed : all ≡ b.history.items ++ Take hand k ∷ [] =
    c.push_reserved.ensures.items ∙ ap (λ l. l ++ Take c.number-in-Ok-3.result k ∷ []) c.in_ok-reserve.ensures.items ∙ ap (λ (h : ℕ). b.history.items ++ Take h k ∷ []) c.number-in-Ok-3.ensures in
    let step : BoardStep opening now (Take hand k) new = (a, take_free J I R N b.index index k hand a c.self.invariant.1 c.self.invariant.3 free its written, refl) in
    let legal : IsHistory opening all new = history_more opening b.history.items all now (Take hand k) new c.self.invariant.0 step pushed in
    let changes : ChangesIndex b.index index (action_id a) (jobs_in b.index (action_id a)) (Some (record { hand = hand; job = k })) =
    subst (λ i. ChangesIndex b.index index i (jobs_in b.index i) (Some (record { hand = hand; job = k }))) c.id.ensures
    (subst (λ (h : ℕ). ChangesIndex b.index index c.id.result (jobs_in b.index c.id.result) (Some (record { hand = h; job = k }))) c.number-in-Ok.ensures c.run.ensures.changes) in
    let marked : (j : ℕ) → is_free_in index j ≡ (if list_any (λ i. eqb i j) (jobs_in b.index (action_id a)) then false else is_free_in b.index j) =
    λ j. c.run.ensures.free j ∙ ap (λ i. if list_any (λ l. eqb l j) (jobs_in b.index i) then false else is_free_in b.index j) c.id.ensures in
    let agrees : Agrees N index = take_agrees J I R N b.index index k hand a c.self.invariant.1 c.self.invariant.3 free its written changes marked c.run.ensures.len c.run.ensures.running in
    let paid : IsPaid c.given.new.looks N (import_count J) (count_by is_back all) =
    take_paid J I R N b.index index k hand a c.self.invariant.1 c.self.invariant.3 free its written b.looks c.given.new.looks (import_count J) b.history.items all hand pushed c.given.ensures.one c.self.invariant.5 in
    let parts =
    moved J K I L N b.opened b.added all (stood (job_states_of R) k (Running hand)) c.given.new.looks (count_by is_back all) c.run-in-Ok.ensures.jobs c.run-in-Ok.ensures.importers
    (take_stood J I R N b.index index k hand a c.self.invariant.1 c.self.invariant.3 free its written) legal
    (take_good J I R N b.index index k hand a c.self.invariant.1 c.self.invariant.3 free its written)
    (take_waits J I R N b.index index k hand a c.self.invariant.1 c.self.invariant.3 free its written c.self.invariant.2) paid in
    let few = few_run R in
    let len : c.len.result ≡ length R = c.len.ensures in
    let room : vec_len c.reserve.new.self + (c.len.result + 2) ≤ vec_capacity c.reserve.new.self = c.in_ok-reserve.ensures.ok in (
      parts.0,
      parts.1,
      parts.2,
      agrees,
      take_backs J I R N b.index index k hand a c.self.invariant.1 c.self.invariant.3 free its written b.history.items all hand pushed c.self.invariant.4,
      parts.3,
      omega (arith, few, len, room, agrees.running, c.self.invariant.3.running, c.run.ensures.running, c.push_reserved.ensures.len, c.push_reserved.ensures.capacity),
    )

pub returns-in-Ok-clause-step : goal.returns-in-Ok-clause-step
returns-in-Ok-clause-step c =
    let b = c.self.inside in
    let k = c.in-Some.k in
    let hand = c.args.hand.now in
    let a : Action = c.in-Ok.task.action in
    let J = b.rows.jobs.items in
    let I = b.rows.importers.items in
    let R = b.rows.rows in
    let K = c.run-in-Ok.new.self.jobs.items in
    let N = c.run-in-Ok.new.self.rows in
    let index = c.run.new.self in
    let all = c.push_reserved.new.self.items in
    let free = c.in-Some.ensures.some in
    let its = c.in-Ok.ensures.action in
    let before : Seen = record { opening = record { jobs = J; cache = b.opened }; state = record { standings = job_states_of R; added = b.added }; history = b.history.items; looks = b.looks } in
    let after : Seen = record { opening = record { jobs = K; cache = b.opened }; state = record { standings = job_states_of N; added = b.added }; history = all; looks = c.given.new.looks } in
    let written : N ≡ set R k (record (row_at R k) { status = Running hand }) = c.run-in-Ok.ensures.rows ∙ ap (λ (h : ℕ). set R k (record (row_at R k) { status = Running h })) c.number-in-Ok-2.ensures in
    let pushed : all ≡ b.history.items ++ Take hand k ∷ [] =
    c.push_reserved.ensures.items ∙ ap (λ l. l ++ Take c.number-in-Ok-3.result k ∷ []) c.in_ok-reserve.ensures.items ∙ ap (λ (h : ℕ). b.history.items ++ Take h k ∷ []) c.number-in-Ok-3.ensures in
    let stands = take_stood J I R N b.index index k hand a c.self.invariant.1 c.self.invariant.3 free its written in
    let step : BoardStep before.opening before.state (Take hand k) after.state =
    (a, take_free J I R N b.index index k hand a c.self.invariant.1 c.self.invariant.3 free its written, ap (λ (s : JobStates). let new : BoardState = record { standings = s; added = b.added } in new) stands) in
    let happens : Happens before (Take hand k) after = record { step = step; history = pushed; opening = ap (λ (jobs : List Job). let opening : Opening = record { jobs = jobs; cache = b.opened } in opening) c.run-in-Ok.ensures.jobs } in
    let run : IsRunBy (job_states_of N) hand k a = taken_run J I R N b.index index k hand a c.self.invariant.1 c.self.invariant.3 free its written in
    let knows = c.self.invariant.4 k (free_inside R b.index c.self.invariant.3 k free) in
    let task : Task = record { job = k; action = a; was_back = (row_at R k).was_back } in
    rw (← c.self.view_is) (subst (λ (t : Task). GivesTask hand t before after) (sym c.in-Ok.ensures.task) (record { runs = run; happens = happens; was_back = knows }))

pub returns-in-Ok-clause-least : goal.returns-in-Ok-clause-least
returns-in-Ok-clause-least c =
    let b = c.self.inside in
    let R = b.rows.rows in
    let k = c.in-Some.k in
    let job : c.in-Ok.task.job ≡ k = ap (λ (t : Task). t.job) c.in-Ok.ensures.task in
    rw (← c.self.view_is) (λ j action f. (let least : k ≤ j = first_least R b.index c.self.invariant.3 k c.in-Some.ensures.least j action f in omega (arith, job, least)))

pub returns-in-Ok-clause-own : goal.returns-in-Ok-clause-own
returns-in-Ok-clause-own c =
    let b = c.self.inside in
    let k = c.in-Some.k in
    let a : Action = c.in-Ok.task.action in
    let R = b.rows.rows in
    let opening : Opening = record { jobs = b.rows.jobs.items; cache = b.opened } in
    let now : BoardState = record { standings = job_states_of R; added = b.added } in
    let before : Seen = record { opening = opening; state = now; history = b.history.items; looks = b.looks } in
    let its : action_at now.standings.actions k ≡ Some a = action_row R k ∙ c.in-Ok.ensures.action in
    rw (← c.self.view_is) (own_comes before k a (history_keeps opening b.history.items now c.self.invariant.0) its)

pub returns-in-Ok-clause-looks : goal.returns-in-Ok-clause-looks
returns-in-Ok-clause-looks c =
    let b = c.self.inside in
    let k = c.in-Some.k in
    let hand = c.args.hand.now in
    let a : Action = c.in-Ok.task.action in
    let J = b.rows.jobs.items in
    let I = b.rows.importers.items in
    let R = b.rows.rows in
    let N = c.run-in-Ok.new.self.rows in
    let index = c.run.new.self in
    let all = c.push_reserved.new.self.items in
    let free = c.in-Some.ensures.some in
    let its = c.in-Ok.ensures.action in
    let written : N ≡ set R k (record (row_at R k) { status = Running hand }) = c.run-in-Ok.ensures.rows ∙ ap (λ (h : ℕ). set R k (record (row_at R k) { status = Running h })) c.number-in-Ok-2.ensures in
    let pushed : all ≡ b.history.items ++ Take hand k ∷ [] =
    c.push_reserved.ensures.items ∙ ap (λ l. l ++ Take c.number-in-Ok-3.result k ∷ []) c.in_ok-reserve.ensures.items ∙ ap (λ (h : ℕ). b.history.items ++ Take h k ∷ []) c.number-in-Ok-3.ensures in
    within J c.run-in-Ok.new.self.jobs.items I N c.given.new.looks (count_by is_back all) c.run-in-Ok.ensures.jobs
    (take_good J I R N b.index index k hand a c.self.invariant.1 c.self.invariant.3 free its written)
    (take_paid J I R N b.index index k hand a c.self.invariant.1 c.self.invariant.3 free its written b.looks c.given.new.looks (import_count J) b.history.items all hand pushed c.given.ensures.one c.self.invariant.5)
