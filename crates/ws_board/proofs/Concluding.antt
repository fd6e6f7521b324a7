-- What a board keeps when a task is finished, and when it is opened.
use Rattle.std.proofs.Common.{◌≡◌, ℕ, zero, suc, ◌+◌, ◌*◌, ◌^◌, ◌<◌, ◌≤◌, ◌&&◌, cond, eqb, Bool, true, false, List, [], ◌∷◌, ◌++◌, length, replicate, get_or, count_by, Some, None, refl, sym, ap, ◌∙◌, subst, arith}
use Rattle.std.specs.Prelude.{if◌then◌else◌}
use Rattle.std.specs.List.{All, list_any, sum_by}
use Rattle.std.specs.Str.{bytes_eq}
use Rattle.std.proofs.lemmas.List.Sums.{sum_by-cons}
use Rattle.std.proofs.lemmas.List.{length-replicate}
use Rattle.ws_action.specs.Actions.{Action, action_id}
use Rattle.ws_board.specs.declared.work.Event.{Event}
use Rattle.ws_board.specs.declared.work.Event.TheVariants.{Finish}
use Rattle.ws_board.specs.declared.table.Row.{Row}
use Rattle.ws_board.specs.declared.rows.Rows.{Rows}
use Rattle.ws_board.specs.declared.rows.moves.Moves.{Moves}
use Rattle.ws_board.specs.declared.index.Ready.{Ready as AReady}
use Rattle.ws_board.specs.declared.index.Index.{Index}
use Rattle.ws_board.specs.Work.{Job, JobStates}
use Rattle.ws_board.specs.Machine.{Holdings, is_back_of, is_open, is_waiting, is_ready, has_action_id, Propagated, IsMarked, IsRunBy, unopened}
use Rattle.ws_board.specs.Rows.{times, those_of, is_newly_ready, owed, untold, import_count, is_back, AreFirstRows, ArePropagatedBy, ArePropagated, Propagates, Waits, FinishesRows, KnowsBacks, IsPaid}
use Rattle.ws_board.specs.Table.{row_at, job_states_of}
use Rattle.ws_board.specs.Indexes.{id_in, jobs_of, run_of, jobs_in, run_in, is_free_in, is_released, ChangesIndex, IsSameBut, AgreesBy, Agrees}
use Rattle.ws_board.proofs.Standing.{open_inside}
use Rattle.ws_board.proofs.Marking.{marked_is}
use Rattle.ws_board.proofs.Importing.{first_owes}
use Rattle.ws_board.proofs.Onward.{waits_parts}
use Rattle.ws_board.proofs.Listing.{eqb_same}
use Rattle.ws_board.proofs.Ids.{at_id}
use Rattle.ws_board.proofs.Agreeing.{same_agrees, both_of, ready_is}
use Rattle.ws_board.proofs.Stepping.{carried_on, first_standings}
use Rattle.ws_board.proofs.Closing.{closing, finish_agrees, opened_agrees}
use Rattle.ws_board.proofs.Finishing.{good_parts}
use Rattle.ws_board.proofs.Boarding.{run_row, still_backs, still_paid}

-- ---- those that became ready stand in rows

more : (one : AReady) (ready : List AReady) (k : ℕ) (id : List ℕ) → times k (those_of id ready) ≤ times k (those_of id (one ∷ ready))
more one ready k id = by_id (bytes_eq one.id id)
  where
    by_id : (b : Bool) → times k (those_of id ready) ≤ times k (if b then one.job ∷ those_of id ready else those_of id ready)
    by_id true = omega (arith, sum_by-cons (λ j. cond (eqb j k) 1 0) one.job (those_of id ready))
    by_id false = omega arith

those_has : (ready : List AReady) (n : ℕ) (d : AReady) → n < length ready → 0 < times (get_or ready n d).job (those_of (get_or ready n d).id ready)
those_has [] n d lt = absurd (omega (arith, lt))
those_has (one ∷ ready) zero d lt =
    let here : those_of one.id (one ∷ ready) ≡ one.job ∷ those_of one.id ready = at_id one.id one.id (one.job ∷ those_of one.id ready) (those_of one.id ready) refl in
    let e : times one.job (those_of one.id (one ∷ ready)) ≡ times one.job (one.job ∷ those_of one.id ready) = ap (times one.job) here in
    let a : ◌≡◌ {A = ℕ} (cond (eqb one.job one.job) 1 0) 1 = ap (λ b. cond b 1 0) (eqb_same one.job) in
    omega (arith, e, a, sum_by-cons (λ j. cond (eqb j one.job) 1 0) one.job (those_of one.id ready))
those_has (one ∷ ready) (suc n) d lt =
    let later = those_has ready n d (omega (arith, lt)) in
    let up = more one ready (get_or ready n d).job (get_or ready n d).id in
    omega (arith, later, up)

one_of : (b : Bool) → 0 < (if b then 1 else 0) → b ≡ true
one_of true h = refl
one_of false h = absurd (omega (arith, h))

pub ready_inside : (O N : List Row) (ready : List AReady) → ((k : ℕ) (i : List ℕ) → times k (those_of i ready) ≡ (if is_newly_ready O N i k then 1 else 0)) → All (λ (one : AReady). one.job < length N) ready
ready_inside O N ready listed n d lt =
    let one = get_or ready n d in
    let new : is_newly_ready O N one.id one.job ≡ true = one_of (is_newly_ready O N one.id one.job) (subst (λ m. 0 < m) (listed one.job one.id) (those_has ready n d lt)) in
    let r = both_of (is_waiting (row_at O one.job).status) (is_ready (row_at N one.job).status && has_action_id one.id (row_at N one.job).action) new in
    let s = both_of (is_ready (row_at N one.job).status) (has_action_id one.id (row_at N one.job).action) r.1 in
    open_inside N one.job (ap is_open (ready_is (row_at N one.job).status s.0))

-- an index whose ids and flags are those of another
same_index : (R : List Row) (x y : Index) (free : ℕ → Bool) (count : ℕ) → AgreesBy R (jobs_in x) (run_in x) free count y.running → y.ids ≡ x.ids → ((k : ℕ) → is_free_in y k ≡ free k) → length y.free ≡ count → Agrees R y
same_index R x y free count agrees ids flags len =
    same_agrees R (jobs_in x) (jobs_in y) (run_in x) (run_in y) free (is_free_in y) count (length y.free) y.running y.running agrees
    (λ id. ap (λ m. jobs_of (id_in m.entries id)) ids) (λ id. ap (λ m. run_of (id_in m.entries id)) ids) flags len refl

-- an index whose jobs were taken out again
pub index_still : (R N : List Row) (x y : Index) → N ≡ R → Agrees R x → ((i : List ℕ) → jobs_in y i ≡ jobs_in x i) → IsSameBut x y → Agrees N y
index_still R N x y rows agrees jobs but =
    subst (λ r. Agrees r y) (sym rows)
    (same_agrees R (jobs_in x) (jobs_in y) (run_in x) (run_in y) (is_free_in x) (is_free_in y) (length x.free) (length y.free) x.running y.running agrees jobs but.runs
    (λ k. ap (λ l. get_or l k false) but.free) (ap length but.free) but.running)

-- ---- a task is finished

module _ (h : Holdings) (id : List ℕ) (good : Bool) (old new : Rows) (ready : List AReady) (done : FinishesRows h id good old new ready) where
  pub finish_carried : Propagated old.jobs.items h (job_states_of done.marked) (job_states_of new.rows)
  finish_carried = closing old.jobs.items h old.importers.items old.rows done.marked new.rows done.from done.good done.under done.waits

  pub finish_marked : IsMarked id good (job_states_of old.rows) (job_states_of done.marked)
  finish_marked = marked_is id good old.rows done.marked done.settled done.marks

  pub finish_count : length new.rows ≡ length old.rows
  finish_count = done.good.known.jobs ∙ sym done.from.known.jobs ∙ done.marks.count

  pub finish_backs : (history all : List Event) (hand k : ℕ) → all ≡ history ++ Finish hand k ∷ [] → KnowsBacks old.rows history → KnowsBacks new.rows all
  finish_backs history all hand k is = still_backs old.rows new.rows history all (Finish hand k) finish_count done.backs is (λ j. refl)

  pub finish_paid : (looks next imports : ℕ) (history all : List Event) (hand k : ℕ) → all ≡ history ++ Finish hand k ∷ [] → looks ≤ next → next + owed new.rows ≤ looks + owed old.rows
      → IsPaid looks old.rows imports (count_by is_back history) → IsPaid next new.rows imports (count_by is_back all)
  finish_paid looks next imports history all hand k is more less = still_paid looks next old.rows new.rows imports history all (Finish hand k) finish_count more less is refl

  module _ (x joins ends y : Index) (agrees : Agrees old.rows x) (hand k : ℕ) (action e : Action) (run : IsRunBy (job_states_of old.rows) hand k action) (same : action_id action ≡ id) (there : h id ≡ Some e)
      (joined : (i : List ℕ) → jobs_in joins i ≡ jobs_in x i ++ those_of i ready) (but : IsSameBut x joins)
      (changes : ChangesIndex joins ends id [] None) (flags : ends.free ≡ joins.free) (fewer : ends.running + 1 ≡ joins.running)
      (ids : y.ids ≡ ends.ids) (marks : (j : ℕ) → is_free_in y j ≡ (if is_released ends ready j then true else is_free_in ends j)) (len : length y.free ≡ length ends.free)
      (still : y.running ≡ ends.running) where
    flags_same : ends.free ≡ x.free
    flags_same = flags ∙ but.free

    pub finish_index : Agrees new.rows y
    finish_index =
        same_index new.rows ends y (is_free_in y) (length x.free)
        (finish_agrees old.jobs.items h old.importers.items old.rows done.marked new.rows done.from done.good done.under done.waits
        (jobs_in x) (run_in x) (is_free_in x) (length x.free) x.running agrees id good done.settled done.marks hand k action
        (run_row old.rows hand k action run).0 (run_row old.rows hand k action run).1 same (open_inside old.rows k (ap is_open (run_row old.rows hand k action run).0)) e there
        ready done.listed done.runs (jobs_in joins) (jobs_in ends) joined changes.jobs (run_in ends) ran_is
        (is_free_in y) freed_is y.running (omega (arith, still, fewer, but.running)))
        ids (λ j. refl) (len ∙ ap length flags_same)
      where
        ran_is : (i : List ℕ) → run_in ends i ≡ (if bytes_eq id i then None else run_in x i)
        ran_is i = changes.runs i ∙ ap (λ o. if bytes_eq id i then None else o) (but.runs i)

        freed_is : (j : ℕ) → is_free_in y j ≡ (if is_released ends ready j then true else is_free_in x j)
        freed_is j = marks j ∙ ap (λ l. if is_released ends ready j then true else get_or l j false) flags_same

-- ---- the opening

module _ (h : Holdings) (spare : ℕ) (old new : Rows) (before after : Moves) (looks next : ℕ) (none : before.ready.items ≡ []) (first : AreFirstRows old.jobs.items old.importers.items (length old.jobs.items) old.rows)
    (from : ArePropagated old) (on : Propagates h spare old new before after looks next) (waits : Waits new.jobs.items new.rows [] (λ j. false)) where
  opened_good : ArePropagatedBy old.jobs.items old.importers.items new.rows
  opened_good = good_parts new.jobs.items old.jobs.items new.importers.items old.importers.items new.rows (sym on.jobs) (sym on.importers) on.good

  opened_waits : Waits old.jobs.items new.rows [] (λ j. false)
  opened_waits = waits_parts new.jobs.items old.jobs.items new.rows new.rows [] [] (λ j. false) (sym on.jobs) refl refl waits

  pub open_carried : Propagated old.jobs.items h (unopened old.jobs.items) (job_states_of new.rows)
  open_carried =
      subst (λ (s : JobStates). Propagated old.jobs.items h s (job_states_of new.rows)) (first_standings old.jobs.items old.importers.items old.rows first)
      (carried_on old.jobs.items h old.importers.items old.rows new.rows from opened_good on.under opened_waits)

  pub opened_listed : (k : ℕ) (i : List ℕ) → times k (those_of i after.ready.items) ≡ (if is_newly_ready old.rows new.rows i k then 1 else 0)
  opened_listed k i =
      let e : times k (those_of i before.ready.items) ≡ 0 = ap (λ l. times k (those_of i l)) none in
      omega (arith, on.listed k i, e)

  pub open_index : (x joins y : Index) → ((id : List ℕ) → (jobs_in x id ≡ []) × (run_in x id ≡ None)) → x.free ≡ replicate (length old.jobs.items) false → x.running ≡ 0
      → ((i : List ℕ) → jobs_in joins i ≡ jobs_in x i ++ those_of i after.ready.items) → IsSameBut x joins → y.ids ≡ joins.ids
      → ((j : ℕ) → is_free_in y j ≡ (if is_released joins after.ready.items j then true else is_free_in joins j)) → length y.free ≡ length joins.free
      → y.running ≡ joins.running → Agrees new.rows y
  open_index x joins y empty flags start joined but ids marks len still =
      same_index new.rows joins y (is_free_in y) (length (replicate (length old.jobs.items) false))
      (opened_agrees old.jobs.items h old.importers.items old.rows new.rows first from opened_good on.under opened_waits
      (jobs_in x) (jobs_in joins) (run_in x) (run_in joins) (is_free_in x) (is_free_in y) (length (replicate (length old.jobs.items) false)) y.running after.ready.items
      (λ id. (empty id).0) (λ id. (empty id).1) (λ j. ap (λ l. get_or l j false) flags) (length-replicate (length old.jobs.items) false) (still ∙ but.running ∙ start) opened_listed on.runs joined but.runs
      (λ j. marks j ∙ ap (λ l. if is_released joins after.ready.items j then true else get_or l j false) but.free))
      ids (λ j. refl) (len ∙ ap length (but.free ∙ flags))

  pub open_parts : ArePropagatedBy old.jobs.items old.importers.items new.rows × Waits old.jobs.items new.rows [] (λ j. false)
  open_parts = (opened_good, opened_waits)

  pub open_backs : (history : List Event) → history ≡ [] → KnowsBacks new.rows history
  open_backs history is k lt =
      let at : k < length old.jobs.items = omega (arith, lt, opened_good.known.jobs) in
      on.backs k ∙ ap (λ (r : Row). r.was_back) (first.each k at) ∙ sym (ap (list_any (is_back_of k)) is)

  pub open_paid : looks ≡ 0 → spare ≡ 3 * length old.rows → before.settled.items ≡ [] → sum_by (λ list. length list) old.importers.items ≤ import_count old.jobs.items → looks + length old.rows ≤ next
      → IsPaid next new.rows (import_count old.jobs.items) 0
  open_paid start is settled few least =
      let o = first_owes old.jobs.items old.importers.items old.rows first from.known.lists in
      let n : untold old.importers.items before.settled.items ≡ 0 = ap (untold old.importers.items) settled in (
        omega (arith, opened_good.known.jobs, first.count, least, start),
        omega (arith, o, n, on.paid, few, first.count, opened_good.known.jobs, start, is),
      )

-- what the opening may read fits
pub open_room : (J : List Job) (I : List (List ℕ)) (R : List Row) (settled : List ℕ) (looks : ℕ) → AreFirstRows J I (length J) R → length I ≡ length J → sum_by (λ list. length list) I ≤ import_count J → length R < 2 ^ 63 → import_count J < 2 ^ 64 → settled ≡ [] → looks ≡ 0
    → looks + owed R + untold I settled + (3 * length R) < 2 ^ 128
open_room J I R settled looks first lists few rows imports none start =
    let o = first_owes J I R first lists in
    let n : untold I settled ≡ 0 = ap (untold I) none in
    omega (arith, o, n, few, rows, imports, first.count, start)
