-- A finish as a whole, and the opening: rows, index and what was read.
use Rattle.std.proofs.Common.{◌≡◌, ℕ, zero, suc, ◌+◌, ◌<◌, Bool, true, false, ◌&&◌, cond, eqb, List, [], ◌++◌, length, replicate, get_or, count_by, Option, Some, None, refl, sym, ap, ◌∙◌, arith, inl, inr, ◌⊎◌}
use Rattle.std.specs.Prelude.{if◌then◌else◌, is_none}
use Rattle.std.specs.List.{list_any}
use Rattle.std.specs.Str.{bytes_eq}
use Rattle.std.proofs.lemmas.Bool.{cases_lt}
use Rattle.std.proofs.lemmas.List.Sums.{sum_by-append}
use Rattle.ws_action.specs.Actions.{Action, action_id}
use Rattle.ws_board.specs.declared.work.JobStatus.{JobStatus}
use Rattle.ws_board.specs.declared.work.JobStatus.TheVariants.{Waiting, Ready, Running, Blocked, Done}
use Rattle.ws_board.specs.declared.table.Row.{Row}
use Rattle.ws_board.specs.declared.index.Run.{Run}
use Rattle.ws_board.specs.declared.index.Ready.{Ready as AReady}
use Rattle.ws_board.specs.Work.{Job, JobStates}
use Rattle.ws_board.specs.Machine.{Holdings, is_waiting, is_ready, is_active, is_running, has_action_id, Propagated}
use Rattle.ws_board.specs.Propagation.{IsUnder}
use Rattle.ws_board.specs.Rows.{times, those_of, is_newly_ready, AreFirstRows, ArePropagatedBy, Marks, Waits}
use Rattle.ws_board.specs.Table.{row_at, job_states_of}
use Rattle.ws_board.specs.Indexes.{AgreesBy, is_unrun}
use Rattle.ws_board.proofs.Runs.{none_counted}
use Rattle.ws_board.proofs.Standing.{status_row, row_past}
use Rattle.ws_board.proofs.Onward.{under_others}
use Rattle.ws_board.proofs.Stepping.{carried_on, under_first, waited_rests, none_new}
use Rattle.ws_board.proofs.Agreeing.{released_agrees}
use Rattle.ws_board.proofs.Ids.{at_id, off_id, same_id_or}
use Rattle.ws_board.proofs.Noting.{done_agrees}

module _ (J : List Job) (h : Holdings) (I : List (List ℕ)) (O M N : List Row) (from : ArePropagatedBy J I M) (good : ArePropagatedBy J I N)
    (under : (first : JobStates) → IsUnder J h first (job_states_of M) → IsUnder J h first (job_states_of N))
    (waits : Waits J N [] (λ j. false)) where
  pub closing : Propagated J h (job_states_of M) (job_states_of N)
  closing = carried_on J h I M N from good under waits

  pub closing_others : (k : ℕ) → is_waiting (row_at M k).status ≡ false → ((row_at N k).status ≡ (row_at M k).status) × ((row_at N k).action ≡ (row_at M k).action)
  closing_others = under_others J h I M N from under

  pub closing_rests : (k : ℕ) → is_waiting (row_at M k).status ≡ true → is_running (row_at N k).status ≡ false
  closing_rests = waited_rests J h M N closing

  pub finish_agrees : (jobs : List ℕ → List ℕ) (run : List ℕ → Option Run) (free : ℕ → Bool) (count running : ℕ) → AgreesBy O jobs run free count running
      → (id : List ℕ) (good : Bool) (settled : List ℕ) → Marks id good O M settled → (hand k : ℕ) (action : Action) → (row_at O k).status ≡ Running hand → (row_at O k).action ≡ Some action → action_id action ≡ id → k < length O
      → (e : Action) → h id ≡ Some e
      → (ready : List AReady) → ((k : ℕ) (i : List ℕ) → times k (those_of i ready) ≡ (if is_newly_ready M N i k then 1 else 0))
      → count_by is_running (job_states_of N).statuses ≡ count_by is_running (job_states_of M).statuses
      → (more ended : List ℕ → List ℕ) → ((i : List ℕ) → more i ≡ jobs i ++ those_of i ready) → ((i : List ℕ) → ended i ≡ (if bytes_eq id i then [] else more i))
      → (ran : List ℕ → Option Run) → ((i : List ℕ) → ran i ≡ (if bytes_eq id i then None else run i))
      → (freed : ℕ → Bool) → ((k : ℕ) → freed k ≡ (if list_any (λ one. (eqb one.job k) && is_none (ran one.id)) ready then true else free k))
      → (now : ℕ) → now + 1 ≡ running
      → AgreesBy N ended ran freed count now
  finish_agrees jobs run free count running agrees id done settled marks hand k action runs its same inside e there ready listed still more ended more_is ended_is ran ran_is freed freed_is now less =
      released_agrees M N (λ i. if bytes_eq id i then [] else jobs i) ended (λ i. if bytes_eq id i then None else run i) ran free freed count now ready
      (done_agrees O M jobs run free count running agrees id done settled marks hand k action runs its same inside now less)
      (good.known.jobs ∙ sym from.known.jobs) closing_others closing_rests listed_by still joined ran_is freed_is
    where
      listed_by : (k : ℕ) (i : List ℕ) → times k (those_of i ready) ≡ (if is_newly_ready M N i k then 1 else 0)
      listed_by = listed

      none : (k : ℕ) → times k (those_of id ready) ≡ 0
      none k = listed k id ∙ ap (λ b. if b then 1 else 0) (none_new J h M N id e (under_first J h I M N from under) there k)

      add_none : (n : ℕ) → n ≡ 0 → 0 ≡ 0 + n
      add_none n e = omega (arith, e)

      joined : (i : List ℕ) (k : ℕ) → times k (ended i) ≡ times k (if bytes_eq id i then [] else jobs i) + times k (those_of i ready)
      joined i k = by_id (same_id_or id i)
        where
          by_id : (id ≡ i) ⊎ (id ≡ i → ⊥) → times k (ended i) ≡ times k (if bytes_eq id i then [] else jobs i) + times k (those_of i ready)
          by_id (inl e) =
              ap (times k) (ended_is i ∙ at_id id i [] (more i) e)
              ∙ add_none (times k (those_of i ready)) (ap (λ x. times k (those_of x ready)) (sym e) ∙ none k)
              ∙ ap (λ l. times k l + times k (those_of i ready)) (sym (at_id id i [] (jobs i) e))
          by_id (inr ne) =
              ap (times k) (ended_is i ∙ off_id id i [] (more i) ne ∙ more_is i)
              ∙ sum_by-append (λ j. cond (eqb j k) 1 0) (jobs i) (those_of i ready)
              ∙ ap (λ l. times k l + times k (those_of i ready)) (sym (off_id id i [] (jobs i) ne))

-- ---- the opening

module _ (J : List Job) (h : Holdings) (I : List (List ℕ)) (O N : List Row) (first : AreFirstRows J I (length J) O) (from : ArePropagatedBy J I O) (good : ArePropagatedBy J I N)
    (under : (start : JobStates) → IsUnder J h start (job_states_of O) → IsUnder J h start (job_states_of N))
    (waits : Waits J N [] (λ j. false)) where
  first_status : (k : ℕ) → (is_active (row_at O k).status ≡ false) × (is_running (row_at O k).status ≡ false)
  first_status k = elim (cases_lt k (length J)) [
    | inl lt ↦ (let w : (row_at O k).status ≡ Waiting = ap (λ (r : Row). r.status) (first.each k lt) in (ap is_active w, ap is_running w))
    | inr le ↦ (let b : (row_at O k).status ≡ Blocked = ap (λ (r : Row). r.status) (row_past O k (omega (arith, le, first.count))) in (ap is_active b, ap is_running b))
  ]

  first_none : count_by is_running (job_states_of O).statuses ≡ 0
  first_none = none_counted (job_states_of O).statuses (λ k. ap is_running (status_row O k) ∙ (first_status k).1)

  empty_free : (n k : ℕ) → get_or (replicate n false) k false ≡ false
  empty_free zero k = refl
  empty_free (suc n) zero = refl
  empty_free (suc n) (suc k) = empty_free n k

  pub opened_agrees : (jobs more : List ℕ → List ℕ) (run ran : List ℕ → Option Run) (free freed : ℕ → Bool) (count now : ℕ) (ready : List AReady)
      → ((id : List ℕ) → jobs id ≡ []) → ((id : List ℕ) → run id ≡ None) → ((k : ℕ) → free k ≡ get_or (replicate (length J) false) k false) → count ≡ length J → now ≡ 0
      → ((k : ℕ) (i : List ℕ) → times k (those_of i ready) ≡ (if is_newly_ready O N i k then 1 else 0))
      → count_by is_running (job_states_of N).statuses ≡ count_by is_running (job_states_of O).statuses
      → ((i : List ℕ) → more i ≡ jobs i ++ those_of i ready) → ((i : List ℕ) → ran i ≡ run i)
      → ((k : ℕ) → freed k ≡ (if list_any (λ one. (eqb one.job k) && is_none (ran one.id)) ready then true else free k))
      → AgreesBy N more ran freed count now
  opened_agrees jobs more run ran free freed count now ready none unrun free_is len still_none listed still more_is ran_is freed_is =
      released_agrees O N jobs more run ran free freed count now ready start
      (good.known.jobs ∙ sym from.known.jobs) (under_others J h I O N from under) (waited_rests J h O N (carried_on J h I O N from good under waits)) listed still
      (λ i k. ap (times k) (more_is i) ∙ sum_by-append (λ j. cond (eqb j k) 1 0) (jobs i) (those_of i ready)) ran_is freed_is
    where
      start : AgreesBy O jobs run free count now
      start = record {
        jobs = λ id k. ap (times k) (none id) ∙ sym (ap (λ b. if b && has_action_id id (row_at O k).action then 1 else 0) (first_status k).0);
        runs = λ id hand job. (
          λ e. (let c : ◌≡◌ {A = Option Run} None (Some (record { hand = hand; job = job })) = sym (unrun id) ∙ e in absurd (cc)),
          λ p. (let c : true ≡ false = sym (ap is_running p.0) ∙ (first_status job).1 in absurd (cc)),
        );
        count = len ∙ sym first.count;
        free = λ k. free_is k ∙ empty_free (length J) k ∙ sym (not_ready k);
        running = still_none ∙ sym first_none;
      }
        where
          idle_ready : (s : JobStatus) (b : Bool) → is_active s ≡ false → (is_ready s && b) ≡ false
          idle_ready Waiting b e = refl
          idle_ready Ready b e = absurd (cc)
          idle_ready (Running hand) b e = refl
          idle_ready Blocked b e = refl
          idle_ready (Done good) b e = refl

          not_ready : (k : ℕ) → (is_ready (row_at O k).status && is_unrun run (row_at O k).action) ≡ false
          not_ready k = idle_ready (row_at O k).status (is_unrun run (row_at O k).action) (first_status k).0
