-- The index once a job is taken, given back or done.
use Rattle.std.proofs.Common.{◌≡◌, ℕ, ◌+◌, ◌<◌, Bool, true, false, ◌&&◌, cond, eqb, List, [], length, count_by, Option, Some, None, refl, sym, ap, ◌∙◌, arith, inl, inr, ◌⊎◌}
use Rattle.std.specs.Prelude.{if◌then◌else◌, is_none}
use Rattle.std.specs.List.{list_any}
use Rattle.std.specs.Str.{bytes_eq}
use Rattle.std.proofs.Math.ListN.{set, length-set}
use Rattle.std.proofs.lemmas.Bool.{cases_eq}
use Rattle.std.proofs.lemmas.Slice.Eq.{bytes_eq-Decides}
use Rattle.ws_action.specs.Actions.{Action, action_id}
use Rattle.ws_board.specs.declared.work.JobStatus.{JobStatus}
use Rattle.ws_board.specs.declared.work.JobStatus.TheVariants.{Waiting, Ready, Running, Blocked, Done}
use Rattle.ws_board.specs.declared.table.Row.{Row}
use Rattle.ws_board.specs.declared.index.Run.{Run}
use Rattle.ws_board.specs.Machine.{is_ready, is_active, is_running, has_action_id}
use Rattle.ws_board.specs.Rows.{times, is_active_of, Marks}
use Rattle.ws_board.specs.Table.{row_at, job_states_of}
use Rattle.ws_board.specs.Indexes.{is_unrun, IsRunAt, AgreesBy}
use Rattle.ws_board.proofs.Runs.{at_most}
use Rattle.ws_board.proofs.Ids.{of_id, at_id, off_id, same_id_or}
use Rattle.ws_board.proofs.Standing.{status_row, length_statuses, row_same, row_other, runs_set}
use Rattle.ws_board.proofs.Agreeing.{both_of, both_and, none_of, ready_is, running_is, has_its, has_same, id_is, listed_active, one_run, unrun_none}

run_parts : (hand other j k : ℕ) → ◌≡◌ {A = Option Run} (Some (record { hand = hand; job = j })) (Some (record { hand = other; job = k })) → (hand ≡ other) × (j ≡ k)
run_parts hand other j k e = (ap (λ (o : Option Run). elim o [ None ↦ hand | Some r ↦ r.hand ]) e, ap (λ (o : Option Run). elim o [ None ↦ j | Some r ↦ r.job ]) e)

module _ (R N : List Row) (jobs : List ℕ → List ℕ) (run : List ℕ → Option Run) (free : ℕ → Bool) (count running : ℕ) (agrees : AgreesBy R jobs run free count running)
    (k : ℕ) (row : Row) (written : N ≡ set R k row) (inside : k < length R) (action : Action) (its : (row_at R k).action ≡ Some action) (keeps : row.action ≡ (row_at R k).action)
    (was : is_active (row_at R k).status ≡ true) (is : is_active row.status ≡ true) where
  abbrev id : List ℕ
  id = action_id action

  here : row_at N k ≡ row
  here = ap (λ rs. row_at rs k) written ∙ row_same R k row inside

  other : (j : ℕ) → (j ≡ k → ⊥) → row_at N j ≡ row_at R j
  other j ne = ap (λ rs. row_at rs j) written ∙ row_other R k j row ne

  here_action : (row_at N k).action ≡ Some action
  here_action = ap (λ (r : Row). r.action) here ∙ keeps ∙ its

  actions_same : (j : ℕ) → (row_at N j).action ≡ (row_at R j).action
  actions_same j = elim (cases_eq j k) [
    | inl e ↦ ap (λ i. (row_at N i).action) e ∙ ap (λ (r : Row). r.action) here ∙ keeps ∙ ap (λ i. (row_at R i).action) (sym e)
    | inr ne ↦ ap (λ (r : Row). r.action) (other j ne)
  ]

  actives_same : (j : ℕ) → is_active (row_at N j).status ≡ is_active (row_at R j).status
  actives_same j = elim (cases_eq j k) [
    | inl e ↦ ap (λ i. is_active (row_at N i).status) e ∙ ap (λ (r : Row). is_active r.status) here ∙ is ∙ sym was ∙ ap (λ i. is_active (row_at R i).status) (sym e)
    | inr ne ↦ ap (λ (r : Row). is_active r.status) (other j ne)
  ]

  active_still : (i : List ℕ) (j : ℕ) → is_active_of N i j ≡ is_active_of R i j
  active_still i j = ap (λ b. b && has_action_id i (row_at N j).action) (actives_same j) ∙ ap (λ (a : Option Action). is_active (row_at R j).status && has_action_id i a) (actions_same j)

  count_same : count ≡ length N
  count_same = agrees.count ∙ sym (ap length written ∙ length-set R k row)

  jobs_still : (new : List ℕ → List ℕ) → ((i : List ℕ) → new i ≡ (if bytes_eq id i then jobs id else jobs i)) → (i : List ℕ) (j : ℕ) → times j (new i) ≡ (if is_active_of N i j then 1 else 0)
  jobs_still new new_is i j = ap (times j) (new_is i ∙ of_id jobs id i) ∙ agrees.jobs i j ∙ ap (λ b. if b then 1 else 0) (sym (active_still i j))

  ran_same : (ran : List ℕ → Option Run) (x : Option Run) → ((i : List ℕ) → ran i ≡ (if bytes_eq id i then x else run i)) → (a : Option Action) → has_action_id id a ≡ false → is_unrun ran a ≡ is_unrun run a
  ran_same ran x ran_is None not = refl
  ran_same ran x ran_is (Some b) not =
      ap is_none (ran_is (action_id b) ∙ off_id id (action_id b) x (run (action_id b)) (λ e. let c : true ≡ false = sym ((bytes_eq-Decides (action_id b) id).1 (sym e)) ∙ not in cc))

  -- a job with another id, or that is not ready, may be given as before
  unlisted : (ran : List ℕ → Option Run) (x : Option Run) → ((i : List ℕ) → ran i ≡ (if bytes_eq id i then x else run i)) → (j : ℕ) → is_active_of R id j ≡ false → free j ≡ (is_ready (row_at N j).status && is_unrun ran (row_at N j).action)
  unlisted ran x ran_is j not =
      agrees.free j ∙ by_ready (is_ready (row_at R j).status) refl
      ∙ ap (λ (r : Row). is_ready r.status && is_unrun ran r.action) (sym (other j apart))
    where
      apart : j ≡ k → ⊥
      apart e = let c : true ≡ false = sym (both_and (is_active (row_at R k).status) (has_action_id id (row_at R k).action) was (has_its id (row_at R k).action action its refl)) ∙ ap (is_active_of R id) (sym e) ∙ not in cc

      by_ready : (b : Bool) → is_ready (row_at R j).status ≡ b → (is_ready (row_at R j).status && is_unrun run (row_at R j).action) ≡ (is_ready (row_at R j).status && is_unrun ran (row_at R j).action)
      by_ready false e = ap (λ b. b && is_unrun run (row_at R j).action) e ∙ ap (λ b. b && is_unrun ran (row_at R j).action) (sym e)
      by_ready true e =
          let a : is_active (row_at R j).status ≡ true = ap is_active (ready_is (row_at R j).status e) in
          let h : has_action_id id (row_at R j).action ≡ false = ap (λ b. b && has_action_id id (row_at R j).action) (sym a) ∙ not in
          ap (λ b. is_ready (row_at R j).status && b) (sym (ran_same ran x ran_is (row_at R j).action h))

  -- ---- a job is taken

  pub taken_agrees : (hand : ℕ) (new : List ℕ → List ℕ) (ran : List ℕ → Option Run) (freed : ℕ → Bool) (length_of now : ℕ) → (row_at R k).status ≡ Ready → row.status ≡ Running hand → run id ≡ None
      → ((i : List ℕ) → new i ≡ (if bytes_eq id i then jobs id else jobs i))
      → ((i : List ℕ) → ran i ≡ (if bytes_eq id i then Some (record { hand = hand; job = k }) else run i))
      → ((j : ℕ) → freed j ≡ (if list_any (λ i. eqb i j) (jobs id) then false else free j))
      → length_of ≡ count → now ≡ running + 1
      → AgreesBy N new ran freed length_of now
  taken_agrees hand new ran freed length_of now ready runs none new_is ran_is freed_is len more = record {
    jobs = jobs_still new new_is;
    runs = λ i h j. (forth i h j (same_id_or id i), back i h j (same_id_or id i));
    count = len ∙ count_same;
    free = λ j. freed_is j ∙ free_is j (is_active_of R id j) refl;
    running = (
        let a : ◌≡◌ {A = ℕ} (cond (is_running (row_at R k).status) 1 0) 0 = ap (λ s. cond (is_running s) 1 0) ready in
        let b : ◌≡◌ {A = ℕ} (cond (is_running row.status) 1 0) 1 = ap (λ s. cond (is_running s) 1 0) runs in
        let c : count_by is_running (job_states_of N).statuses ≡ count_by is_running (job_states_of (set R k row)).statuses = ap (λ rs. count_by is_running (job_states_of rs).statuses) written in
        omega (arith, runs_set R k row inside, a, b, c, more, agrees.running)
        );
  }
    where
      now_runs : (row_at N k).status ≡ Running hand
      now_runs = ap (λ (r : Row). r.status) here ∙ runs

      still_runs : (j h : ℕ) → (row_at R j).status ≡ Running h → (row_at N j).status ≡ Running h
      still_runs j h s = ap (λ (r : Row). r.status) (other j (λ e. let c : true ≡ false = sym (ap is_running s) ∙ ap (λ i. is_running (row_at R i).status) e ∙ ap is_running ready in cc)) ∙ s

      forth : (i : List ℕ) (h j : ℕ) → (id ≡ i) ⊎ (id ≡ i → ⊥) → ran i ≡ Some (record { hand = h; job = j }) → IsRunAt N i h j
      forth i h j (inl e) r =
          let p = run_parts hand h k j (sym (ran_is i ∙ at_id id i (Some (record { hand = hand; job = k })) (run i) e) ∙ r) in
          (ap (λ x. (row_at N x).status) (sym p.1) ∙ now_runs ∙ ap Running p.0, ap (λ x. has_action_id i (row_at N x).action) (sym p.1) ∙ has_its i (row_at N k).action action here_action e)
      forth i h j (inr ne) r =
          let q = (agrees.runs i h j).0 (sym (ran_is i ∙ off_id id i (Some (record { hand = hand; job = k })) (run i) ne) ∙ r) in
          (still_runs j h q.0, ap (has_action_id i) (actions_same j) ∙ q.1)

      back : (i : List ℕ) (h j : ℕ) → (id ≡ i) ⊎ (id ≡ i → ⊥) → IsRunAt N i h j → ran i ≡ Some (record { hand = h; job = j })
      back i h j (inl e) q = ran_is i ∙ at_id id i (Some (record { hand = hand; job = k })) (run i) e ∙ by_job (cases_eq j k)
        where
          by_job : (j ≡ k) ⊎ (j ≡ k → ⊥) → ◌≡◌ {A = Option Run} (Some (record { hand = hand; job = k })) (Some (record { hand = h; job = j }))
          by_job (inl same) =
              let s : Running hand ≡ Running h = sym now_runs ∙ ap (λ x. (row_at N x).status) (sym same) ∙ q.0 in
              let hands : hand ≡ h = cc in
              λ x. Some (record { hand = hands x; job = sym same x })
          by_job (inr ne) =
              absurd (unrun_none R jobs run free count running agrees id none j h
              (ap (λ (r : Row). r.status) (sym (other j ne)) ∙ q.0, ap (has_action_id id) (sym (actions_same j)) ∙ ap (λ x. has_action_id x (row_at N j).action) e ∙ q.1))
      back i h j (inr ne) q =
          ran_is i ∙ off_id id i (Some (record { hand = hand; job = k })) (run i) ne
          ∙ (agrees.runs i h j).1 (ap (λ (r : Row). r.status) (sym (other j apart)) ∙ q.0, ap (has_action_id i) (sym (actions_same j)) ∙ q.1)
        where
          apart : j ≡ k → ⊥
          apart same = ne (has_same i (row_at N j).action action (ap (λ x. (row_at N x).action) same ∙ here_action) q.1)

      run_here : ran id ≡ Some (record { hand = hand; job = k })
      run_here = ran_is id ∙ at_id id id (Some (record { hand = hand; job = k })) (run id) refl

      shut : (a : Option Action) → has_action_id id a ≡ true → is_unrun ran a ≡ false
      shut None h = refl
      shut (Some b) h = ap (λ i. is_none (ran i)) ((bytes_eq-Decides (action_id b) id).0 h) ∙ ap is_none run_here

      and_false : (b c : Bool) → c ≡ false → (b && c) ≡ false
      and_false true c e = e
      and_false false c e = refl

      free_is : (j : ℕ) (b : Bool) → is_active_of R id j ≡ b → (if list_any (λ i. eqb i j) (jobs id) then false else free j) ≡ (is_ready (row_at N j).status && is_unrun ran (row_at N j).action)
      free_is j true e =
          ap (λ b. if b then false else free j) (listed_active R jobs run free count running agrees id j ∙ e)
          ∙ sym (and_false (is_ready (row_at N j).status) (is_unrun ran (row_at N j).action) (shut (row_at N j).action (ap (has_action_id id) (actions_same j) ∙ (both_of (is_active (row_at R j).status) (has_action_id id (row_at R j).action) e).1)))
      free_is j false e =
          ap (λ b. if b then false else free j) (listed_active R jobs run free count running agrees id j ∙ e) ∙ unlisted ran (Some (record { hand = hand; job = k })) ran_is j e

  -- ---- a job is given back

  pub given_agrees : (hand : ℕ) (new : List ℕ → List ℕ) (ran : List ℕ → Option Run) (freed : ℕ → Bool) (length_of now : ℕ) → (row_at R k).status ≡ Running hand → row.status ≡ Ready
      → ((i : List ℕ) → new i ≡ (if bytes_eq id i then jobs id else jobs i))
      → ((i : List ℕ) → ran i ≡ (if bytes_eq id i then None else run i))
      → ((j : ℕ) → freed j ≡ (if list_any (λ i. eqb i j) (jobs id) then true else free j))
      → length_of ≡ count → now + 1 ≡ running
      → AgreesBy N new ran freed length_of now
  given_agrees hand new ran freed length_of now runs ready new_is ran_is freed_is len fewer = record {
    jobs = jobs_still new new_is;
    runs = λ i h j. (forth i h j (same_id_or id i), back i h j (same_id_or id i));
    count = len ∙ count_same;
    free = λ j. freed_is j ∙ free_is j (is_active_of R id j) refl;
    running = (
        let a : ◌≡◌ {A = ℕ} (cond (is_running (row_at R k).status) 1 0) 1 = ap (λ s. cond (is_running s) 1 0) runs in
        let b : ◌≡◌ {A = ℕ} (cond (is_running row.status) 1 0) 0 = ap (λ s. cond (is_running s) 1 0) ready in
        let c : count_by is_running (job_states_of N).statuses ≡ count_by is_running (job_states_of (set R k row)).statuses = ap (λ rs. count_by is_running (job_states_of rs).statuses) written in
        omega (arith, runs_set R k row inside, a, b, c, fewer, agrees.running)
        );
  }
    where
      now_ready : (row_at N k).status ≡ Ready
      now_ready = ap (λ (r : Row). r.status) here ∙ ready

      apart_of : (j h : ℕ) → (row_at N j).status ≡ Running h → j ≡ k → ⊥
      apart_of j h s e = let c : true ≡ false = sym (ap is_running s) ∙ ap (λ i. is_running (row_at N i).status) e ∙ ap is_running now_ready in cc

      forth : (i : List ℕ) (h j : ℕ) → (id ≡ i) ⊎ (id ≡ i → ⊥) → ran i ≡ Some (record { hand = h; job = j }) → IsRunAt N i h j
      forth i h j (inl e) r = let c : ◌≡◌ {A = Option Run} None (Some (record { hand = h; job = j })) = sym (ran_is i ∙ at_id id i None (run i) e) ∙ r in absurd (cc)
      forth i h j (inr ne) r =
          let q = (agrees.runs i h j).0 (sym (ran_is i ∙ off_id id i None (run i) ne) ∙ r) in
          let apart : j ≡ k → ⊥ = λ same. ne (has_same i (row_at R j).action action (ap (λ x. (row_at R x).action) same ∙ its) q.1) in
          (ap (λ (r : Row). r.status) (other j apart) ∙ q.0, ap (has_action_id i) (actions_same j) ∙ q.1)

      back : (i : List ℕ) (h j : ℕ) → (id ≡ i) ⊎ (id ≡ i → ⊥) → IsRunAt N i h j → ran i ≡ Some (record { hand = h; job = j })
      back i h j (inl e) q =
          let ne = apart_of j h q.0 in
          absurd (ne (one_run R jobs run free count running agrees id h hand j k
          (ap (λ (r : Row). r.status) (sym (other j ne)) ∙ q.0, ap (has_action_id id) (sym (actions_same j)) ∙ ap (λ x. has_action_id x (row_at N j).action) e ∙ q.1)
          (runs, has_its id (row_at R k).action action its refl)))
      back i h j (inr ne) q =
          ran_is i ∙ off_id id i None (run i) ne ∙ (agrees.runs i h j).1 (ap (λ (r : Row). r.status) (sym (other j (apart_of j h q.0))) ∙ q.0, ap (has_action_id i) (sym (actions_same j)) ∙ q.1)

      opened : (a : Option Action) → has_action_id id a ≡ true → is_unrun ran a ≡ true
      opened None h = absurd (cc)
      opened (Some b) h = ap (λ i. is_none (ran i)) ((bytes_eq-Decides (action_id b) id).0 h) ∙ ap is_none (ran_is id ∙ at_id id id None (run id) refl)

      -- a job with the id that is ready or runs is ready now: one alone ran
      ready_now : (j : ℕ) → is_active (row_at R j).status ≡ true → has_action_id id (row_at R j).action ≡ true → is_ready (row_at N j).status ≡ true
      ready_now j active has = elim (cases_eq j k) [
        | inl e ↦ ap (λ i. is_ready (row_at N i).status) e ∙ ap is_ready now_ready
        | inr ne ↦ ap (λ (r : Row). is_ready r.status) (other j ne) ∙ by_running ne (is_running (row_at R j).status) refl
      ]
        where
          not_running : (s : JobStatus) → is_active s ≡ true → is_running s ≡ false → is_ready s ≡ true
          not_running Waiting a r = absurd (cc)
          not_running Ready a r = refl
          not_running (Running h) a r = absurd (cc)
          not_running Blocked a r = absurd (cc)
          not_running (Done good) a r = absurd (cc)

          by_running : (j ≡ k → ⊥) → (b : Bool) → is_running (row_at R j).status ≡ b → is_ready (row_at R j).status ≡ true
          by_running ne false e = not_running (row_at R j).status active e
          by_running ne true e =
              let r = running_is (row_at R j).status e in
              absurd (ne (one_run R jobs run free count running agrees id r.0 hand j k (r.1, has) (runs, has_its id (row_at R k).action action its refl)))

      free_is : (j : ℕ) (b : Bool) → is_active_of R id j ≡ b → (if list_any (λ i. eqb i j) (jobs id) then true else free j) ≡ (is_ready (row_at N j).status && is_unrun ran (row_at N j).action)
      free_is j true e =
          let p = both_of (is_active (row_at R j).status) (has_action_id id (row_at R j).action) e in
          ap (λ b. if b then true else free j) (listed_active R jobs run free count running agrees id j ∙ e)
          ∙ sym (both_and (is_ready (row_at N j).status) (is_unrun ran (row_at N j).action) (ready_now j p.0 p.1) (opened (row_at N j).action (ap (has_action_id id) (actions_same j) ∙ p.1)))
      free_is j false e =
          ap (λ b. if b then true else free j) (listed_active R jobs run free count running agrees id j ∙ e) ∙ unlisted ran None ran_is j e

-- ---- an id is done

module _ (R N : List Row) (jobs : List ℕ → List ℕ) (run : List ℕ → Option Run) (free : ℕ → Bool) (count running : ℕ) (agrees : AgreesBy R jobs run free count running)
    (id : List ℕ) (good : Bool) (settled : List ℕ) (marks : Marks id good R N settled) (hand k : ℕ) (action : Action) (runs : (row_at R k).status ≡ Running hand) (its : (row_at R k).action ≡ Some action) (same : action_id action ≡ id) (inside : k < length R) where
  still : (j : ℕ) → is_active_of R id j ≡ false → row_at N j ≡ row_at R j
  still j e = marks.each j ∙ ap (λ (b : Bool). if b then record (row_at R j) { status = Done good } else row_at R j) e

  done : (j : ℕ) → is_active_of R id j ≡ true → row_at N j ≡ record (row_at R j) { status = Done good }
  done j e = marks.each j ∙ ap (λ (b : Bool). if b then record (row_at R j) { status = Done good } else row_at R j) e

  actions : (j : ℕ) → (row_at N j).action ≡ (row_at R j).action
  actions j = by_active (is_active_of R id j) refl
    where
      by_active : (b : Bool) → is_active_of R id j ≡ b → (row_at N j).action ≡ (row_at R j).action
      by_active true e = ap (λ (r : Row). r.action) (done j e)
      by_active false e = ap (λ (r : Row). r.action) (still j e)

  pub done_none : (j : ℕ) → is_active_of N id j ≡ false
  done_none j = by_active (is_active_of R id j) refl
    where
      by_active : (b : Bool) → is_active_of R id j ≡ b → is_active_of N id j ≡ false
      by_active true e = ap (λ (r : Row). is_active r.status && has_action_id id r.action) (done j e)
      by_active false e = ap (λ (r : Row). is_active r.status && has_action_id id r.action) (still j e) ∙ e

  -- what has another id stays
  apart_still : (i : List ℕ) (j : ℕ) → (id ≡ i → ⊥) → has_action_id i (row_at R j).action ≡ true → row_at N j ≡ row_at R j
  apart_still i j ne has = still j (none_of (is_active_of R id j) (λ e. (
      let a = id_is i (row_at R j).action has in
      let b = id_is id (row_at R j).action (both_of (is_active (row_at R j).status) (has_action_id id (row_at R j).action) e).1 in
      let t : Some a.0 ≡ Some b.0 = sym a.1 ∙ b.1 in
      let acts : a.0 ≡ b.0 = cc in
      ne (sym b.2 ∙ ap action_id (sym acts) ∙ a.2))))

  active_apart : (i : List ℕ) (j : ℕ) → (id ≡ i → ⊥) → is_active_of N i j ≡ is_active_of R i j
  active_apart i j ne = by_has (has_action_id i (row_at R j).action) refl
    where
      and_false : (b c : Bool) → c ≡ false → (b && c) ≡ false
      and_false true c e = e
      and_false false c e = refl

      by_has : (b : Bool) → has_action_id i (row_at R j).action ≡ b → is_active_of N i j ≡ is_active_of R i j
      by_has true e = ap (λ (r : Row). is_active r.status && has_action_id i r.action) (apart_still i j ne e)
      by_has false e = and_false (is_active (row_at N j).status) (has_action_id i (row_at N j).action) (ap (has_action_id i) (actions j) ∙ e) ∙ sym (and_false (is_active (row_at R j).status) (has_action_id i (row_at R j).action) e)

  ran_before : (j : ℕ) → is_running (row_at N j).status ≡ true → row_at N j ≡ row_at R j
  ran_before j r = still j (none_of (is_active_of R id j) (λ e. let c : false ≡ true = ap (λ (r : Row). is_running r.status) (sym (done j e)) ∙ r in cc))

  active_here : is_active_of R id k ≡ true
  active_here = both_and (is_active (row_at R k).status) (has_action_id id (row_at R k).action) (ap is_active runs) (has_its id (row_at R k).action action its same)

  run_is : run id ≡ Some (record { hand = hand; job = k })
  run_is = (agrees.runs id hand k).1 (runs, has_its id (row_at R k).action action its same)

  abbrev stood : Row
  stood = record (row_at R k) { status = Done good }

  -- one job runs less
  fewer : count_by is_running (job_states_of N).statuses + 1 ≡ count_by is_running (job_states_of R).statuses
  fewer =
      let S = (job_states_of (set R k stood)).statuses in
      let lens : length (job_states_of N).statuses ≡ length S = length_statuses N ∙ marks.count ∙ sym (length_statuses (set R k stood) ∙ length-set R k stood) in
      let a = at_most is_running S (job_states_of N).statuses lens (λ j. (λ e. ap is_running (status_row (set R k stood) j) ∙ run_there j (sym (ap is_running (status_row N j)) ∙ e))) in
      let b = at_most is_running (job_states_of N).statuses S (sym lens) (λ j. (λ e. ap is_running (status_row N j) ∙ run_back j (sym (ap is_running (status_row (set R k stood) j)) ∙ e))) in
      let x : ◌≡◌ {A = ℕ} (cond (is_running (row_at R k).status) 1 0) 1 = ap (λ s. cond (is_running s) 1 0) runs in
      let y : ◌≡◌ {A = ℕ} (cond (is_running stood.status) 1 0) 0 = refl in
      omega (arith, a, b, x, y, runs_set R k stood inside)
    where
      run_there : (j : ℕ) → is_running (row_at N j).status ≡ true → is_running (row_at (set R k stood) j).status ≡ true
      run_there j r = elim (cases_eq j k) [
        | inl e ↦ (let c : false ≡ true = ap (λ (r : Row). is_running r.status) (sym (done j (ap (is_active_of R id) e ∙ active_here))) ∙ r in absurd (cc))
        | inr ne ↦ ap (λ (r : Row). is_running r.status) (row_other R k j stood ne) ∙ ap (λ (r : Row). is_running r.status) (sym (ran_before j r)) ∙ r
      ]

      run_back : (j : ℕ) → is_running (row_at (set R k stood) j).status ≡ true → is_running (row_at N j).status ≡ true
      run_back j r = elim (cases_eq j k) [
        | inl e ↦ (let c : false ≡ true = ap (λ (r : Row). is_running r.status) (sym (row_same R k stood inside)) ∙ ap (λ i. is_running (row_at (set R k stood) i).status) (sym e) ∙ r in absurd (cc))
        | inr ne ↦ (
            let ran : is_running (row_at R j).status ≡ true = ap (λ (r : Row). is_running r.status) (sym (row_other R k j stood ne)) ∙ r in
            ap (λ (r : Row). is_running r.status) (still j (none_of (is_active_of R id j) (λ e. (
            let h = running_is (row_at R j).status ran in
            ne (one_run R jobs run free count running agrees id h.0 hand j k (h.1, (both_of (is_active (row_at R j).status) (has_action_id id (row_at R j).action) e).1) (runs, has_its id (row_at R k).action action its same)))))) ∙ ran)
      ]

  pub done_agrees : (now : ℕ) → now + 1 ≡ running → AgreesBy N (λ i. if bytes_eq id i then [] else jobs i) (λ i. if bytes_eq id i then None else run i) free count now
  done_agrees now less = record {
    jobs = λ i j. jobs_are i j (same_id_or id i);
    runs = λ i h j. (forth i h j (same_id_or id i), back i h j (same_id_or id i));
    count = agrees.count ∙ sym marks.count;
    free = λ j. free_is j (is_active_of R id j) refl;
    running = omega (arith, fewer, less, agrees.running);
  }
    where
      jobs_are : (i : List ℕ) (j : ℕ) → (id ≡ i) ⊎ (id ≡ i → ⊥) → times j (if bytes_eq id i then [] else jobs i) ≡ (if is_active_of N i j then 1 else 0)
      jobs_are i j (inl e) = ap (times j) (at_id id i [] (jobs i) e) ∙ ap (λ b. if b then 1 else 0) (sym (ap (λ x. is_active_of N x j) (sym e) ∙ done_none j))
      jobs_are i j (inr ne) = ap (times j) (off_id id i [] (jobs i) ne) ∙ agrees.jobs i j ∙ ap (λ b. if b then 1 else 0) (sym (active_apart i j ne))

      forth : (i : List ℕ) (h j : ℕ) → (id ≡ i) ⊎ (id ≡ i → ⊥) → (if bytes_eq id i then None else run i) ≡ Some (record { hand = h; job = j }) → IsRunAt N i h j
      forth i h j (inl e) r = let c : ◌≡◌ {A = Option Run} None (Some (record { hand = h; job = j })) = sym (at_id id i None (run i) e) ∙ r in absurd (cc)
      forth i h j (inr ne) r =
          let q = (agrees.runs i h j).0 (sym (off_id id i None (run i) ne) ∙ r) in
          (ap (λ (r : Row). r.status) (apart_still i j ne q.1) ∙ q.0, ap (has_action_id i) (actions j) ∙ q.1)

      back : (i : List ℕ) (h j : ℕ) → (id ≡ i) ⊎ (id ≡ i → ⊥) → IsRunAt N i h j → (if bytes_eq id i then None else run i) ≡ Some (record { hand = h; job = j })
      back i h j (inl e) q =
          let has : has_action_id id (row_at N j).action ≡ true = ap (λ x. has_action_id x (row_at N j).action) e ∙ q.1 in
          let c : true ≡ false = sym (both_and (is_active (row_at N j).status) (has_action_id id (row_at N j).action) (ap is_active q.0) has) ∙ done_none j in absurd (cc)
      back i h j (inr ne) q = off_id id i None (run i) ne ∙ (agrees.runs i h j).1 (ap (λ (r : Row). r.status) (sym (ran_before j (ap is_running q.0))) ∙ q.0, ap (has_action_id i) (sym (actions j)) ∙ q.1)

      shut : (a : Option Action) → has_action_id id a ≡ true → is_unrun run a ≡ false
      shut None h = refl
      shut (Some b) h = ap (λ i. is_none (run i)) ((bytes_eq-Decides (action_id b) id).0 h) ∙ ap is_none run_is

      and_false : (b c : Bool) → c ≡ false → (b && c) ≡ false
      and_false true c e = e
      and_false false c e = refl

      unrun_apart : (a : Option Action) → has_action_id id a ≡ false → is_unrun (λ i. if bytes_eq id i then None else run i) a ≡ is_unrun run a
      unrun_apart None h = refl
      unrun_apart (Some b) h = ap is_none (off_id id (action_id b) None (run (action_id b)) (λ e. let c : true ≡ false = sym ((bytes_eq-Decides (action_id b) id).1 (sym e)) ∙ h in cc))

      by_ready : (j : ℕ) → is_active_of R id j ≡ false → (b : Bool) → is_ready (row_at R j).status ≡ b
          → (is_ready (row_at R j).status && is_unrun run (row_at R j).action) ≡ (is_ready (row_at R j).status && is_unrun (λ i. if bytes_eq id i then None else run i) (row_at R j).action)
      by_ready j not false e = ap (λ b. b && is_unrun run (row_at R j).action) e ∙ ap (λ b. b && is_unrun (λ i. if bytes_eq id i then None else run i) (row_at R j).action) (sym e)
      by_ready j not true e =
          let a : is_active (row_at R j).status ≡ true = ap is_active (ready_is (row_at R j).status e) in
          let h : has_action_id id (row_at R j).action ≡ false = ap (λ b. b && has_action_id id (row_at R j).action) (sym a) ∙ not in
          ap (λ b. is_ready (row_at R j).status && b) (sym (unrun_apart (row_at R j).action h))

      free_is : (j : ℕ) (b : Bool) → is_active_of R id j ≡ b → free j ≡ (is_ready (row_at N j).status && is_unrun (λ i. if bytes_eq id i then None else run i) (row_at N j).action)
      free_is j true e =
          agrees.free j ∙ and_false (is_ready (row_at R j).status) (is_unrun run (row_at R j).action) (shut (row_at R j).action (both_of (is_active (row_at R j).status) (has_action_id id (row_at R j).action) e).1)
          ∙ ap (λ (r : Row). is_ready r.status && is_unrun (λ i. if bytes_eq id i then None else run i) r.action) (sym (done j e))
      free_is j false e = agrees.free j ∙ by_ready j e (is_ready (row_at R j).status) refl ∙ ap (λ (r : Row). is_ready r.status && is_unrun (λ i. if bytes_eq id i then None else run i) r.action) (sym (still j e))
