-- What a board keeps when a job is taken, and when it is given back.
use Rattle.std.proofs.Common.{◌≡◌, ℕ, ◌+◌, ◌^◌, ◌<◌, ◌≤◌, true, false, eqb, List, [], ◌∷◌, ◌++◌, length, count_by, Some, None, refl, sym, ap, ◌∙◌, arith}
use Rattle.std.specs.Prelude.{if◌then◌else◌, ◌↔◌, ◌≢◌}
use Rattle.std.specs.List.{All, list_any}
use Rattle.std.proofs.Math.ListN.{set}
use Rattle.std.proofs.lemmas.List.Sums.{count_by-le-length}
use Rattle.ws_action.specs.Actions.{Action, action_id}
use Rattle.ws_board.specs.declared.work.JobStatus.TheVariants.{Ready, Running}
use Rattle.ws_board.specs.declared.work.Event.{Event}
use Rattle.ws_board.specs.declared.work.Event.TheVariants.{Take, Back}
use Rattle.ws_board.specs.declared.table.Row.{Row}
use Rattle.ws_board.specs.declared.index.Index.{Index}
use Rattle.ws_board.specs.Work.{Job}
use Rattle.ws_board.specs.Machine.{is_open, is_active, has_action_id, is_running, IsFree, IsRunBy, IsRunWith, NoneFree, stood}
use Rattle.ws_board.specs.Rows.{is_active_of, is_back, ArePropagatedBy, Waits, KnowsBacks, IsPaid}
use Rattle.ws_board.specs.Table.{row_at, job_states_of}
use Rattle.ws_board.specs.Indexes.{id_in, jobs_in, run_in, is_free_in, ChangesIndex, Agrees}
use Rattle.ws_board.proofs.Standing.{length_statuses, open_inside, row_same}
use Rattle.ws_board.proofs.Listing.{eqb_same, eqb_not}
use Rattle.ws_board.proofs.Agreeing.{both_and, has_its, id_is, listed_some, jobs_inside, free_unrun, free_so}
use Rattle.ws_board.proofs.Noting.{taken_agrees, given_agrees}
use Rattle.ws_board.proofs.Stepping.{free_is_free, none_is_free, least_free, stood_row}
use Rattle.ws_board.proofs.Activating.{kept_of, act_good, act_waits, act_backs, back_backs, taken_paid, back_paid}
use Rattle.ws_board.proofs.Boarding.{run_row, row_run, runs_some, still_count, more_count}

pub few_run : (R : List Row) → count_by is_running (job_states_of R).statuses ≤ length R
few_run R = omega (arith, count_by-le-length is_running (job_states_of R).statuses, length_statuses R)

-- ---- what the index says of the rows

module _ (R : List Row) (x : Index) (agrees : Agrees R x) where
  pub free_job : (k : ℕ) → is_free_in x k ≡ true → (action : Action) × ((row_at R k).status ≡ Ready) × ((row_at R k).action ≡ Some action) × (run_in x (action_id action) ≡ None)
  free_job k f = free_unrun R (jobs_in x) (run_in x) (is_free_in x) (length x.free) x.running agrees k f

  pub free_inside : (k : ℕ) → is_free_in x k ≡ true → k < length R
  free_inside k f = open_inside R k (ap is_open (free_job k f).1)

  pub listed_inside : (id : List ℕ) → All (λ j. j < length x.free) (jobs_in x id)
  listed_inside id = jobs_inside R (jobs_in x) (run_in x) (is_free_in x) (length x.free) x.running agrees id

  pub listed_kept : (id : List ℕ) (k : ℕ) → is_active_of R id k ≡ true → id_in x.ids.entries id ≢ None
  listed_kept id k active = kept_of (id_in x.ids.entries id) k (listed_some R (jobs_in x) (run_in x) (is_free_in x) (length x.free) x.running agrees id k active)

  pub one_more_runs : length R < 2 ^ 63 → x.running + 1 < 2 ^ 64
  one_more_runs fits = omega (arith, fits, agrees.running, few_run R)

  pub none_free : ((k : ℕ) → is_free_in x k ≡ false) → NoneFree (job_states_of R)
  none_free none = none_is_free R (jobs_in x) (run_in x) (is_free_in x) (length x.free) x.running agrees none

  pub first_least : (k : ℕ) → ((j : ℕ) → j < k → is_free_in x j ≡ false) → (j : ℕ) (action : Action) → IsFree (job_states_of R) j action → k ≤ j
  first_least = least_free R (jobs_in x) (run_in x) (is_free_in x) (length x.free) x.running agrees

  -- who runs an id, by the index and by the rows
  pub runs_by : (hand job : ℕ) (id : List ℕ) → (run_in x id ≡ Some (record { hand = hand; job = job })) ↔ IsRunWith (job_states_of R) hand job id
  runs_by hand job id = (
    λ e. (let p = (agrees.runs id hand job).0 e in let a = id_is id (row_at R job).action p.1 in record { action = a.0; run = row_run R hand job a.0 p.0 a.1; its = a.2 }),
    λ w. (let p = run_row R hand job w.action w.run in (agrees.runs id hand job).1 (p.0, has_its id (row_at R job).action w.action p.1 w.its)),
  )

-- ---- a job is taken

module _ (J : List Job) (I : List (List ℕ)) (R N : List Row) (x y : Index) (k hand : ℕ) (action : Action) (good : ArePropagatedBy J I R) (agrees : Agrees R x) (free : is_free_in x k ≡ true) (its : (row_at R k).action ≡ Some action)
    (written : N ≡ set R k (record (row_at R k) { status = Running hand })) where
  abbrev runs : Row
  runs = record (row_at R k) { status = Running hand }

  so : ((row_at R k).status ≡ Ready) × (run_in x (action_id action) ≡ None) × (is_active_of R (action_id action) k ≡ true)
  so = free_so R (jobs_in x) (run_in x) (is_free_in x) (length x.free) x.running agrees k action free its

  inside : k < length R
  inside = free_inside R x agrees k free

  was : is_active (row_at R k).status ≡ true
  was = ap is_active so.0

  pub take_kept : id_in x.ids.entries (action_id action) ≢ None
  take_kept = listed_kept R x agrees (action_id action) k so.2

  pub take_free : IsFree (job_states_of R) k action
  take_free = free_is_free R (jobs_in x) (run_in x) (is_free_in x) (length x.free) x.running agrees k action so.0 its so.1

  pub take_stood : job_states_of N ≡ stood (job_states_of R) k (Running hand)
  take_stood = stood_row R N k runs (Running hand) written refl refl

  -- the worker runs it
  pub taken_run : IsRunBy (job_states_of N) hand k action
  taken_run =
      let here : row_at N k ≡ runs = ap (λ rs. row_at rs k) written ∙ row_same R k runs inside in
      row_run N hand k action (ap (λ (r : Row). r.status) here) (ap (λ (r : Row). r.action) here ∙ its)

  pub take_good : ArePropagatedBy J I N
  take_good = act_good J I R N k runs good written inside was refl refl refl refl

  pub take_waits : Waits J R [] (λ j. false) → Waits J N [] (λ j. false)
  take_waits = act_waits J I R N k runs good written inside was refl refl refl refl

  pub take_backs : (history all : List Event) (by : ℕ) → all ≡ history ++ Take by k ∷ [] → KnowsBacks R history → KnowsBacks N all
  take_backs history all by is = act_backs J I R N k runs good written inside was refl refl refl refl history all (Take by k) is refl (λ j. refl)

  pub take_paid : (looks next imports : ℕ) (history all : List Event) (by : ℕ) → all ≡ history ++ Take by k ∷ [] → next ≡ looks + 1 → IsPaid looks R imports (count_by is_back history) → IsPaid next N imports (count_by is_back all)
  take_paid looks next imports history all by is one paid =
      taken_paid J I R N k runs good written inside was refl refl refl refl looks next imports (count_by is_back history) (count_by is_back all) hand so.0 refl one (still_count history all (Take by k) is refl) paid

  pub take_agrees : ChangesIndex x y (action_id action) (jobs_in x (action_id action)) (Some (record { hand = hand; job = k }))
      → ((j : ℕ) → is_free_in y j ≡ (if list_any (λ i. eqb i j) (jobs_in x (action_id action)) then false else is_free_in x j))
      → length y.free ≡ length x.free → y.running ≡ x.running + 1 → Agrees N y
  take_agrees changes marked len more =
      taken_agrees R N (jobs_in x) (run_in x) (is_free_in x) (length x.free) x.running agrees k runs written inside action its refl was refl hand
      (jobs_in y) (run_in y) (is_free_in y) (length y.free) y.running so.0 refl so.1 changes.jobs changes.runs marked len more

-- ---- a job is given back

module _ (J : List Job) (I : List (List ℕ)) (R N : List Row) (x y : Index) (k hand : ℕ) (action : Action) (good : ArePropagatedBy J I R) (agrees : Agrees R x) (run : IsRunBy (job_states_of R) hand k action)
    (written : N ≡ set R k (record (row_at R k) { status = Ready; was_back = true })) where
  abbrev ready : Row
  ready = record (row_at R k) { status = Ready; was_back = true }

  at : ((row_at R k).status ≡ Running hand) × ((row_at R k).action ≡ Some action)
  at = run_row R hand k action run

  stands : k < length R
  stands = open_inside R k (ap is_open at.0)

  acts : is_active (row_at R k).status ≡ true
  acts = ap is_active at.0

  active : is_active_of R (action_id action) k ≡ true
  active = both_and (is_active (row_at R k).status) (has_action_id (action_id action) (row_at R k).action) acts (has_its (action_id action) (row_at R k).action action at.1 refl)

  pub back_kept : id_in x.ids.entries (action_id action) ≢ None
  back_kept = listed_kept R x agrees (action_id action) k active

  pub back_some : 0 < x.running
  back_some = omega (arith, agrees.running, runs_some R hand k at.0)

  pub back_inside : k < length R
  back_inside = stands

  pub back_stood : job_states_of N ≡ stood (job_states_of R) k Ready
  back_stood = stood_row R N k ready Ready written refl refl

  pub back_good : ArePropagatedBy J I N
  back_good = act_good J I R N k ready good written stands acts refl refl refl refl

  pub back_waits : Waits J R [] (λ j. false) → Waits J N [] (λ j. false)
  back_waits = act_waits J I R N k ready good written stands acts refl refl refl refl

  pub back_knows : (history all : List Event) (by : ℕ) → all ≡ history ++ Back by k ∷ [] → KnowsBacks R history → KnowsBacks N all
  back_knows history all by is =
      back_backs J I R N k ready good written stands acts refl refl refl refl history all (Back by k) is refl (eqb_same k) (λ j ne. eqb_not k j (λ e. ne (sym e)))

  pub back_pays : (looks imports : ℕ) (history all : List Event) (by : ℕ) → all ≡ history ++ Back by k ∷ [] → IsPaid looks R imports (count_by is_back history) → IsPaid looks N imports (count_by is_back all)
  back_pays looks imports history all by is paid =
      back_paid J I R N k ready good written stands acts refl refl refl refl looks imports (count_by is_back history) (count_by is_back all) hand at.0 refl (more_count history all (Back by k) is refl) paid

  pub back_agrees : ChangesIndex x y (action_id action) (jobs_in x (action_id action)) None → ((j : ℕ) → is_free_in y j ≡ (if list_any (λ i. eqb i j) (jobs_in x (action_id action)) then true else is_free_in x j))
      → length y.free ≡ length x.free → y.running + 1 ≡ x.running → Agrees N y
  back_agrees changes marked len fewer =
      given_agrees R N (jobs_in x) (run_in x) (is_free_in x) (length x.free) x.running agrees k ready written stands action at.1 refl acts refl hand
      (jobs_in y) (run_in y) (is_free_in y) (length y.free) y.running at.0 refl changes.jobs changes.runs marked len fewer
