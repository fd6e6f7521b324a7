use Rattle.std.proofs.Common.{ℕ, List, ◌∙◌, ◌≡◌, ◌+◌, ◌<◌, ◌≤◌, ◌∷◌, ◌++◌, [], Some, true, arith, ap, subst, sym, refl, length, count_by, vec_len, vec_capacity}
use Rattle.std.specs.Prelude.{if◌then◌else◌}
use Rattle.std.specs.List.{All}
use Rattle.ws_map.specs.Kept.{taken}
use Rattle.ws_action.specs.Actions.{Action, action_id}
use Rattle.ws_cache.specs.Joined.{lesser}
use Rattle.ws_board.specs.declared.work.Event.TheVariants.{Finish}
use Rattle.ws_board.specs.declared.index.Ready.{Ready as AReady}
use Rattle.ws_board.specs.Work.{Job, Entries, Opening, BoardState, Seen}
use Rattle.ws_board.specs.Machine.{Holdings, is_running, IsMarked, IsRunWith, Finishes, BoardStep, IsHistory}
use Rattle.ws_board.specs.Propagation.{held_with}
use Rattle.ws_board.specs.Rows.{those_of, import_count, is_back, FinishesRows, KnowsBacks}
use Rattle.ws_board.specs.Table.{job_states_of}
use Rattle.ws_board.specs.Indexes.{jobs_in, is_free_in, is_released, Agrees}
use Rattle.ws_board.proofs.Histories.{history_more, finish_step}
use Rattle.ws_board.proofs.Own.{own_finish}
use Rattle.ws_board.proofs.Sounds.{KeepsIn, history_keeps}
use Rattle.ws_board.proofs.Stepping.{held_there}
use Rattle.ws_board.proofs.Indexing.{same_then}
use Rattle.ws_board.proofs.Boarding.{reads_fit, backs_few, moved, within, run_row, runs_some, undone_all, out_again, seen_same, unmoved}
use Rattle.ws_board.proofs.Concluding.{finish_carried, finish_marked, finish_count, finish_backs, finish_paid, finish_index, index_still, ready_inside}
use Rattle.ws_board.proofs.Board.finish.Goals as goal

pub finish_rows-requires-clause-good : goal.finish_rows-requires-clause-good
finish_rows-requires-clause-good c = c.self.invariant.1

pub finish_rows-requires-clause-waits : goal.finish_rows-requires-clause-waits
finish_rows-requires-clause-waits c = c.self.invariant.2

pub finish_rows-requires-clause-jobs : goal.finish_rows-requires-clause-jobs
finish_rows-requires-clause-jobs c = λ k. c.self.invariant.3.jobs c.id-id.result k

pub finish_rows-requires-clause-room : goal.finish_rows-requires-clause-room
finish_rows-requires-clause-room c =
    let b = c.self.inside in
    let fits = reads_fit b.looks b.rows.rows (import_count b.rows.jobs.items) (count_by is_back b.history.items) c.self.invariant.5
    (omega (arith, c.self.invariant.1.known.jobs, b.rows.jobs.ok.0, b.rows.jobs.ok.1, b.rows.jobs.small)) c.self.invariant.1.known.fits (omega (arith, backs_few b.history.items, b.history.ok.0, b.history.ok.1, b.history.small)) in
    omega (arith, fits)

-- ---- want of memory

pub undo-requires : goal.undo-requires
undo-requires c = (undone_all c.self.inside.rows c.finish_rows.new.rows c.new-moves.result c.finish_rows.new.moves c.new-moves.ensures.0 c.finish_rows.ensures.undone).1

pub undo-requires-in-Err : goal.undo-requires-in-Err
undo-requires-in-Err c = (undone_all c.self.inside.rows c.finish_rows.new.rows c.new-moves.result c.finish_rows.new.moves c.new-moves.ensures.0 c.finish_rows.ensures.undone).1

pub expel-requires : goal.expel-requires
expel-requires c = (jobs_in c.self.inside.index, λ i. c.in-Ok.ensures.joined i ∙ ap (λ l. jobs_in c.self.inside.index i ++ those_of i l) (sym c.ready.ensures))

-- ---- the task is finished

pub end-requires : goal.end-requires
end-requires c =
    let b = c.self.inside in
    let R = b.rows.rows in
    let by : IsRunWith (job_states_of R) c.args.hand.now c.args.task.job (action_id c.args.task.action) = subst (λ (v : Seen). IsRunWith v.state.standings c.args.hand.now c.args.task.job (action_id c.args.task.action)) (sym c.self.view_is) c.requires.runs in
    omega (arith, c.finish_rows.ensures.same.running, c.self.invariant.3.running, runs_some R c.args.hand.now c.args.task.job (run_row R c.args.hand.now c.args.task.job by.action by.run).0)

pub release-requires : goal.release-requires
release-requires c =
    let b = c.self.inside in
    let done : FinishesRows (held_with b.opened b.added (Some c.args.entry)) c.id-id.result c.is_good.result b.rows c.finish_rows.new.rows c.finish_rows.new.moves.ready.items = c.in-Ok.ensures.ok in
    let inside : All (λ (one : AReady). one.job < length c.finish_rows.new.rows.rows) c.finish_rows.new.moves.ready.items = ready_inside done.marked c.finish_rows.new.rows.rows c.finish_rows.new.moves.ready.items done.listed in
    let count : length c.end.new.self.free ≡ length c.finish_rows.new.rows.rows =
    ap length (c.end.ensures.free ∙ c.finish_rows.ensures.same.free) ∙ c.self.invariant.3.count ∙ sym (finish_count (held_with b.opened b.added (Some c.args.entry)) c.id-id.result c.is_good.result b.rows c.finish_rows.new.rows c.finish_rows.new.moves.ready.items done) in
    subst (λ l. All (λ (one : AReady). one.job < length c.end.new.self.free) l) (sym c.ready-2.ensures)
    (subst (λ n. All (λ (one : AReady). one.job < n) c.finish_rows.new.moves.ready.items) (sym count) inside)

pub invariant_of-self-2 : goal.invariant_of-self-2
invariant_of-self-2 c =
    let b = c.self.inside in
    let hand = c.args.hand.now in
    let job = c.args.task.job in
    let entry : Action = c.args.entry in
    let id = c.id-id.result in
    let good = c.is_good.result in
    let J = b.rows.jobs.items in
    let I = b.rows.importers.items in
    let new = c.finish_rows.new.rows in
    let N = new.rows in
    let ready = c.finish_rows.new.moves.ready.items in
    let h : Holdings = held_with b.opened b.added (Some entry) in
    let all = c.push_reserved.new.self.items in
    let added = c.put.new.self in
    let y = c.release.new.self in
    let opening : Opening = record { jobs = J; cache = b.opened } in
    let old : BoardState = record { standings = job_states_of b.rows.rows; added = b.added } in
    let now : BoardState = record { standings = job_states_of N; added = added } in
    let by : IsRunWith old.standings hand job (action_id c.args.task.action) = subst (λ (v : Seen). IsRunWith v.state.standings hand job (action_id c.args.task.action)) (sym c.self.view_is) c.requires.runs in
    let action : Action = by.action in
    let done : FinishesRows h id good b.rows new ready = c.in-Ok.ensures.ok in
    let keeps : KeepsIn opening old = history_keeps opening b.history.items old c.self.invariant.0 in
    let carried = finish_carried h id good b.rows new ready done in
    let marked = subst (λ i. IsMarked i good old.standings (job_states_of done.marked)) (c.id-id.ensures ∙ sym by.its) (finish_marked h id good b.rows new ready done) in
    let ends : Finishes opening old hand job action entry (record { standings = job_states_of N; added = taken lesser b.added (action_id entry) entry }) =
    finish_step opening old hand job action entry good (job_states_of done.marked) (job_states_of N) keeps by.run (c.requires.fits ∙ sym by.its) c.is_good.ensures marked carried in
    let fin : Finishes opening old hand job action entry now = subst (λ (m : Entries). Finishes opening old hand job action entry (record { standings = job_states_of N; added = m })) (sym c.in_default-put.ensures.ok) ends in
    let step : BoardStep opening old (Finish hand job) now = (action, entry, fin) in
    let pushed : all ≡ b.history.items ++ Finish hand job ∷ [] =
    c.push_reserved.ensures.items ∙ ap (λ (k : ℕ). b.history.items ++ Finish k c.spend.result ∷ []) c.number.ensures ∙ ap (λ (j : ℕ). b.history.items ++ Finish hand j ∷ []) c.spend.ensures in
    let legal : IsHistory opening all now = history_more opening b.history.items all old (Finish hand job) now c.self.invariant.0 step pushed in
    let there = held_there b.opened b.added entry id (c.requires.fits ∙ sym c.id-id.ensures) in
    let agrees : Agrees N y =
    finish_index h id good b.rows new ready done b.index c.finish_rows.new.index c.end.new.self y c.self.invariant.3 hand job action there.0 by.run (by.its ∙ sym c.id-id.ensures) there.1
    c.in-Ok.ensures.joined c.finish_rows.ensures.same c.end.ensures.changes c.end.ensures.free c.end.ensures.running c.release.ensures.ids
    (λ j. c.release.ensures.free j ∙ ap (λ l. if is_released c.end.new.self l j then true else is_free_in c.end.new.self j) c.ready-2.ensures)
    c.release.ensures.len c.release.ensures.running in
    let paid = finish_paid h id good b.rows new ready done b.looks c.finish_rows.new.looks (import_count J) b.history.items all hand job pushed c.in-Ok.ensures.more c.in-Ok.ensures.paid c.self.invariant.5 in
    let parts =
    moved J new.jobs.items I new.importers.items N b.opened added all (job_states_of N) c.finish_rows.new.looks (count_by is_back all) c.finish_rows.ensures.undone.jobs c.finish_rows.ensures.undone.importers refl
    legal done.good done.waits paid in (
      parts.0,
      parts.1,
      parts.2,
      agrees,
      finish_backs h id good b.rows new ready done b.history.items all hand job pushed c.self.invariant.4,
      parts.3,
      omega (
        arith,
        agrees.running,
        c.self.invariant.3.running,
        c.release.ensures.running,
        c.end.ensures.running,
        c.finish_rows.ensures.same.running,
        c.self.invariant.6,
        c.push_reserved.ensures.len,
        c.push_reserved.ensures.capacity,
      ),
    )

pub invariant_of-self : goal.invariant_of-self
invariant_of-self c =
    let b = c.self.inside in
    let J = b.rows.jobs.items in
    let I = b.rows.importers.items in
    let R = b.rows.rows in
    let N = c.undo.new.rows.rows in
    let put = undone_all b.rows c.finish_rows.new.rows c.new-moves.result c.finish_rows.new.moves c.new-moves.ensures.0 c.finish_rows.ensures.undone in
    let rows : N ≡ R = c.undo.ensures.rows ∙ put.0 in
    let parts =
    unmoved J c.undo.new.rows.jobs.items I c.undo.new.rows.importers.items R N b.opened b.added b.added b.history.items b.looks (count_by is_back b.history.items)
    (c.undo.ensures.jobs ∙ c.finish_rows.ensures.undone.jobs) (c.undo.ensures.importers ∙ c.finish_rows.ensures.undone.importers) rows refl c.self.invariant.0 c.self.invariant.1 c.self.invariant.2 c.self.invariant.5 in (
      parts.0,
      parts.1,
      parts.2,
      index_still R N b.index c.finish_rows.new.index rows c.self.invariant.3 c.in_default.ensures.still c.finish_rows.ensures.same,
      subst (λ r. KnowsBacks r b.history.items) (sym rows) c.self.invariant.4,
      parts.3,
      subst (λ r. vec_len b.history + count_by is_running (job_states_of r).statuses ≤ vec_capacity b.history) (sym rows) c.self.invariant.6,
    )

pub returns-in_default-clause-err : goal.returns-in_default-clause-err
returns-in_default-clause-err c =
    let b = c.self.inside in
    let put = undone_all b.rows c.finish_rows.new.rows c.new-moves.result c.finish_rows.new.moves c.new-moves.ensures.0 c.finish_rows.ensures.undone in
    rw (← c.self.view_is) (seen_same b.rows.jobs.items c.undo.new.rows.jobs.items b.rows.rows c.undo.new.rows.rows b.opened b.added b.added b.history.items b.looks
    (c.undo.ensures.jobs ∙ c.finish_rows.ensures.undone.jobs) (c.undo.ensures.rows ∙ put.0) refl)

pub returns-in_default-clause-looks : goal.returns-in_default-clause-looks
returns-in_default-clause-looks c =
    let b = c.self.inside in
    within b.rows.jobs.items c.undo.new.rows.jobs.items b.rows.importers.items b.rows.rows b.looks (count_by is_back b.history.items) (c.undo.ensures.jobs ∙ c.finish_rows.ensures.undone.jobs) c.self.invariant.1 c.self.invariant.5

pub invariant_of-self-in-Err : goal.invariant_of-self-in-Err
invariant_of-self-in-Err c =
    let b = c.self.inside in
    let J = b.rows.jobs.items in
    let I = b.rows.importers.items in
    let R = b.rows.rows in
    let N = c.undo-in-Err.new.rows.rows in
    let put = undone_all b.rows c.finish_rows.new.rows c.new-moves.result c.finish_rows.new.moves c.new-moves.ensures.0 c.finish_rows.ensures.undone in
    let rows : N ≡ R = c.undo-in-Err.ensures.rows ∙ put.0 in
    let parts =
    unmoved J c.undo-in-Err.new.rows.jobs.items I c.undo-in-Err.new.rows.importers.items R N b.opened b.added c.put.new.self b.history.items b.looks (count_by is_back b.history.items)
    (c.undo-in-Err.ensures.jobs ∙ c.finish_rows.ensures.undone.jobs) (c.undo-in-Err.ensures.importers ∙ c.finish_rows.ensures.undone.importers) rows c.in-Err.ensures.err c.self.invariant.0 c.self.invariant.1 c.self.invariant.2 c.self.invariant.5 in (
      parts.0,
      parts.1,
      parts.2,
      index_still R N b.index c.expel.new.self rows c.self.invariant.3 (λ i. out_again (jobs_in b.index i) (jobs_in c.finish_rows.new.index i) (jobs_in c.expel.new.self i) (those_of i c.finish_rows.new.moves.ready.items) (c.in-Ok.ensures.joined i)
          (c.expel.ensures.jobs i ∙ ap (λ l. jobs_in c.expel.new.self i ++ those_of i l) c.ready.ensures)) (same_then b.index c.finish_rows.new.index c.expel.new.self c.finish_rows.ensures.same c.expel.ensures.same),
      subst (λ r. KnowsBacks r b.history.items) (sym rows) c.self.invariant.4,
      parts.3,
      subst (λ r. vec_len b.history + count_by is_running (job_states_of r).statuses ≤ vec_capacity b.history) (sym rows) c.self.invariant.6,
    )

pub returns-in-Err-clause-err : goal.returns-in-Err-clause-err
returns-in-Err-clause-err c =
    let b = c.self.inside in
    let put = undone_all b.rows c.finish_rows.new.rows c.new-moves.result c.finish_rows.new.moves c.new-moves.ensures.0 c.finish_rows.ensures.undone in
    rw (← c.self.view_is) (seen_same b.rows.jobs.items c.undo-in-Err.new.rows.jobs.items b.rows.rows c.undo-in-Err.new.rows.rows b.opened b.added c.put.new.self b.history.items b.looks
    (c.undo-in-Err.ensures.jobs ∙ c.finish_rows.ensures.undone.jobs) (c.undo-in-Err.ensures.rows ∙ put.0) c.in-Err.ensures.err)

pub returns-in-Err-clause-looks : goal.returns-in-Err-clause-looks
returns-in-Err-clause-looks c =
    let b = c.self.inside in
    within b.rows.jobs.items c.undo-in-Err.new.rows.jobs.items b.rows.importers.items b.rows.rows b.looks (count_by is_back b.history.items) (c.undo-in-Err.ensures.jobs ∙ c.finish_rows.ensures.undone.jobs) c.self.invariant.1 c.self.invariant.5

-- ---- what is promised of it

pub returns-clause-step : goal.returns-clause-step
returns-clause-step c =
    let b = c.self.inside in
    let hand = c.args.hand.now in
    let job = c.args.task.job in
    let entry : Action = c.args.entry in
    let id = c.id-id.result in
    let good = c.is_good.result in
    let J = b.rows.jobs.items in
    let new = c.finish_rows.new.rows in
    let N = new.rows in
    let ready = c.finish_rows.new.moves.ready.items in
    let h : Holdings = held_with b.opened b.added (Some entry) in
    let all = c.push_reserved.new.self.items in
    let opening : Opening = record { jobs = J; cache = b.opened } in
    let old : BoardState = record { standings = job_states_of b.rows.rows; added = b.added } in
    let now : BoardState = record { standings = job_states_of N; added = c.put.new.self } in
    let by : IsRunWith old.standings hand job (action_id c.args.task.action) = subst (λ (v : Seen). IsRunWith v.state.standings hand job (action_id c.args.task.action)) (sym c.self.view_is) c.requires.runs in
    let action : Action = by.action in
    let done : FinishesRows h id good b.rows new ready = c.in-Ok.ensures.ok in
    let keeps : KeepsIn opening old = history_keeps opening b.history.items old c.self.invariant.0 in
    let carried = finish_carried h id good b.rows new ready done in
    let marked = subst (λ i. IsMarked i good old.standings (job_states_of done.marked)) (c.id-id.ensures ∙ sym by.its) (finish_marked h id good b.rows new ready done) in
    let ends : Finishes opening old hand job action entry (record { standings = job_states_of N; added = taken lesser b.added (action_id entry) entry }) =
    finish_step opening old hand job action entry good (job_states_of done.marked) (job_states_of N) keeps by.run (c.requires.fits ∙ sym by.its) c.is_good.ensures marked carried in
    let fin : Finishes opening old hand job action entry now = subst (λ (m : Entries). Finishes opening old hand job action entry (record { standings = job_states_of N; added = m })) (sym c.in_default-put.ensures.ok) ends in
    let pushed : all ≡ b.history.items ++ Finish hand job ∷ [] =
    c.push_reserved.ensures.items ∙ ap (λ (k : ℕ). b.history.items ++ Finish k c.spend.result ∷ []) c.number.ensures ∙ ap (λ (j : ℕ). b.history.items ++ Finish hand j ∷ []) c.spend.ensures in
    rw (← c.self.view_is) (record {
      step = (action, entry, fin);
      history = pushed;
      opening = ap (λ (jobs : List Job). let opening : Opening = record { jobs = jobs; cache = b.opened } in opening) c.finish_rows.ensures.undone.jobs;
    })

pub returns-clause-own : goal.returns-clause-own
returns-clause-own c =
    let b = c.self.inside in
    let opening : Opening = record { jobs = b.rows.jobs.items; cache = b.opened } in
    let later : Opening = record { jobs = c.finish_rows.new.rows.jobs.items; cache = b.opened } in
    let old : BoardState = record { standings = job_states_of b.rows.rows; added = b.added } in
    let new : BoardState = record { standings = job_states_of c.finish_rows.new.rows.rows; added = c.put.new.self } in
    let before : Seen = record { opening = opening; state = old; history = b.history.items; looks = b.looks } in
    let after : Seen = record { opening = later; state = new; history = c.push_reserved.new.self.items; looks = c.finish_rows.new.looks } in
    rw (← c.self.view_is) (own_finish before after c.args.entry
    (ap (λ (jobs : List Job). let opening : Opening = record { jobs = jobs; cache = b.opened } in opening) c.finish_rows.ensures.undone.jobs)
    c.in_default-put.ensures.ok)

pub returns-clause-looks : goal.returns-clause-looks
returns-clause-looks c =
    let b = c.self.inside in
    let hand = c.args.hand.now in
    let job = c.args.task.job in
    let id = c.id-id.result in
    let good = c.is_good.result in
    let J = b.rows.jobs.items in
    let new = c.finish_rows.new.rows in
    let ready = c.finish_rows.new.moves.ready.items in
    let h : Holdings = held_with b.opened b.added (Some c.args.entry) in
    let all = c.push_reserved.new.self.items in
    let done : FinishesRows h id good b.rows new ready = c.in-Ok.ensures.ok in
    let pushed : all ≡ b.history.items ++ Finish hand job ∷ [] =
    c.push_reserved.ensures.items ∙ ap (λ (k : ℕ). b.history.items ++ Finish k c.spend.result ∷ []) c.number.ensures ∙ ap (λ (j : ℕ). b.history.items ++ Finish hand j ∷ []) c.spend.ensures in
    within J new.jobs.items b.rows.importers.items new.rows c.finish_rows.new.looks (count_by is_back all) c.finish_rows.ensures.undone.jobs done.good
    (finish_paid h id good b.rows new ready done b.looks c.finish_rows.new.looks (import_count J) b.history.items all hand job pushed c.in-Ok.ensures.more c.in-Ok.ensures.paid c.self.invariant.5)
