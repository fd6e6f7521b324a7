-- What the index says of the machine's steps, and what each event costs.
use Rattle.std.proofs.Common.{◌≡◌, ℕ, suc, ◌+◌, ◌<◌, ◌≤◌, Bool, true, false, ◌&&◌, ◌||◌, cond, List, [], ◌∷◌, ◌++◌, length, map, count_by, Option, Some, None, refl, sym, ap, ◌∙◌, arith, inl, inr, ◌⊎◌}
use Rattle.std.specs.Prelude.{if◌then◌else◌, is_none}
use Rattle.std.specs.List.{list_any, slice_get}
use Rattle.std.specs.FinMap.{get}
use Rattle.std.specs.Option.{option_or}
use Rattle.std.specs.Str.{bytes_eq}
use Rattle.std.proofs.Math.ListN.{set}
use Rattle.std.proofs.lemmas.Bool.{cases_lt}
use Rattle.std.proofs.lemmas.Slice.Eq.{bytes_eq-Decides}
use Rattle.std.proofs.lemmas.List.{set-get_or}
use Rattle.std.proofs.lemmas.List.Sums.{sum_by-cons, sum_by_push}
use Rattle.ws_action.specs.Actions.{Action, action_id}
use Rattle.ws_board.specs.declared.work.JobStatus.{JobStatus}
use Rattle.ws_board.specs.declared.work.JobStatus.TheVariants.{Waiting, Ready, Blocked, Done}
use Rattle.ws_board.specs.declared.work.Event.{Event}
use Rattle.ws_board.specs.declared.table.Row.{Row}
use Rattle.ws_board.specs.declared.index.Run.{Run}
use Rattle.ws_board.specs.Work.{Job, JobStates, Entries}
use Rattle.ws_board.specs.Machine.{Holdings, Propagated, HasStatus, Readiness, Wait, Stop, Act, Follows, IsPlaced, is_waiting, is_ready, is_running, status_at, action_at, has_id, has_action_id, is_run_of, is_back_of, IsFree, NoneFree, stood, unopened}
use Rattle.ws_board.specs.Propagation.{IsUnder, held_with}
use Rattle.ws_board.specs.Calls.{SomeRuns}
use Rattle.ws_board.specs.Rows.{is_newly_ready, is_back, AreFirstRows, ArePropagatedBy, IsPaid, IsBounded, Waits}
use Rattle.ws_board.specs.Table.{row_at, job_states_of}
use Rattle.ws_board.specs.Indexes.{is_unrun, AgreesBy}
use Rattle.ws_board.proofs.Carry.{start_under}
use Rattle.ws_board.proofs.Runs.{stands_rests}
use Rattle.ws_board.proofs.Standing.{status_row, action_row, statuses_set, actions_set, standings_parts}
use Rattle.ws_board.proofs.Onward.{ends_carried}
use Rattle.ws_board.proofs.Agreeing.{both_of, both_and, none_of, ready_is, running_is, id_is, unrun_none}

-- ---- which may be given

module _ (R : List Row) (jobs : List ℕ → List ℕ) (run : List ℕ → Option Run) (free : ℕ → Bool) (count running : ℕ) (agrees : AgreesBy R jobs run free count running) where
  pub unrun_apart : (id : List ℕ) → run id ≡ None → (k : ℕ) → is_run_of (job_states_of R) id k ≡ false
  unrun_apart id none k = none_of (is_run_of (job_states_of R) id k) (λ e. (
      let p = both_of (is_running (status_at (job_states_of R).statuses k)) (has_id (job_states_of R).actions id k) e in
      let r = running_is (row_at R k).status (ap is_running (sym (status_row R k)) ∙ p.0) in
      unrun_none R jobs run free count running agrees id none k r.0 (r.1, ap (has_action_id id) (sym (action_row R k)) ∙ p.1)))

  pub free_is_free : (k : ℕ) (action : Action) → (row_at R k).status ≡ Ready → (row_at R k).action ≡ Some action → run (action_id action) ≡ None → IsFree (job_states_of R) k action
  free_is_free k action ready its none = record { ready = status_row R k ∙ ready; its = action_row R k ∙ its; apart = unrun_apart (action_id action) none }

  some_run : (id : List ℕ) → is_none (run id) ≡ false → (k : ℕ) × (is_run_of (job_states_of R) id k ≡ true)
  some_run id h = by_run (run id) refl h
    where
      by_run : (o : Option Run) → run id ≡ o → is_none o ≡ false → (k : ℕ) × (is_run_of (job_states_of R) id k ≡ true)
      by_run None e h = absurd (cc)
      by_run (Some r) e h =
          let q = (agrees.runs id r.hand r.job).0 e in (
            r.job,
            both_and (is_running (status_at (job_states_of R).statuses r.job)) (has_id (job_states_of R).actions id r.job)
                (ap is_running (status_row R r.job ∙ q.0)) (ap (has_action_id id) (action_row R r.job) ∙ q.1),
          )

  pub none_is_free : ((k : ℕ) → free k ≡ false) → NoneFree (job_states_of R)
  none_is_free none job action ready its =
      some_run (action_id action) (
      let a : is_unrun run (row_at R job).action ≡ is_none (run (action_id action)) = ap (is_unrun run) (sym (action_row R job) ∙ its) in
      let r : is_ready (row_at R job).status ≡ true = ap is_ready (sym (status_row R job) ∙ ready) in
      sym a ∙ sym (ap (λ b. b && is_unrun run (row_at R job).action) r) ∙ sym (agrees.free job) ∙ none job)

  -- a job that may be given is marked
  pub free_marked : (k : ℕ) (action : Action) → IsFree (job_states_of R) k action → free k ≡ true
  free_marked k action f =
      agrees.free k ∙ both_and (is_ready (row_at R k).status) (is_unrun run (row_at R k).action) (ap is_ready (sym (status_row R k) ∙ f.ready))
      (ap (is_unrun run) (sym (action_row R k) ∙ f.its) ∙ unrun (is_none (run (action_id action))) refl)
    where
      unrun : (b : Bool) → is_none (run (action_id action)) ≡ b → is_none (run (action_id action)) ≡ true
      unrun true e = e
      unrun false e = let r = some_run (action_id action) e in let c : false ≡ true = sym (f.apart r.0) ∙ r.1 in absurd (cc)

  -- the first that is marked is the first that may be given
  pub least_free : (k : ℕ) → ((j : ℕ) → j < k → free j ≡ false) → (j : ℕ) (action : Action) → IsFree (job_states_of R) j action → k ≤ j
  least_free k none j action f = elim (cases_lt j k) [
    | inl lt ↦ (let c : false ≡ true = sym (none j lt) ∙ free_marked j action f in absurd (cc))
    | inr le ↦ le
  ]

-- where some run, one does
pub counted_some : (xs : List JobStatus) → 0 < count_by is_running xs → SomeRuns xs
counted_some [] h = absurd (omega (arith, h))
counted_some (x ∷ xs) h = by_head (is_running x) refl (λ some. counted_some xs some)
  where
    by_head : (b : Bool) → is_running x ≡ b → (0 < count_by is_running xs → SomeRuns xs) → SomeRuns (x ∷ xs)
    by_head true e later = (0, e)
    by_head false e later =
        let a : ◌≡◌ {A = ℕ} (cond (is_running x) 1 0) 0 = ap (λ b. cond b 1 0) e in
        let r = later (omega (arith, h, a, sum_by-cons (λ s. cond (is_running s) 1 0) x xs)) in
        (suc r.0, r.1)

-- ---- one row is written

pub stood_row : (R N : List Row) (k : ℕ) (row : Row) (s : JobStatus) → N ≡ set R k row → row.status ≡ s → row.action ≡ (row_at R k).action → job_states_of N ≡ stood (job_states_of R) k s
stood_row R N k row s written is keeps =
    ap job_states_of written ∙ standings_parts (job_states_of (set R k row)) (stood (job_states_of R) k s)
    (statuses_set R k row ∙ ap (set (job_states_of R).statuses k) is)
    (actions_set R k row ∙ ap (set (job_states_of R).actions k) (keeps ∙ sym (action_row R k)) ∙ set-get_or (job_states_of R).actions k None)

-- ---- backs

pub backs_other : (k : ℕ) (history all : List Event) (e : Event) → all ≡ history ++ e ∷ [] → is_back_of k e ≡ false → list_any (is_back_of k) all ≡ list_any (is_back_of k) history
backs_other k history all e is not = ap (list_any (is_back_of k)) is ∙ push history
  where
    push : (xs : List Event) → list_any (is_back_of k) (xs ++ e ∷ []) ≡ list_any (is_back_of k) xs
    push [] = ap (λ b. b || false) not
    push (x ∷ xs) = ap (λ b. is_back_of k x || b) (push xs)

pub backs_here : (k : ℕ) (history all : List Event) (e : Event) → all ≡ history ++ e ∷ [] → is_back_of k e ≡ true → list_any (is_back_of k) all ≡ true
backs_here k history all e is hit = ap (list_any (is_back_of k)) is ∙ push history
  where
    or_true : (b : Bool) → (b || true) ≡ true
    or_true true = refl
    or_true false = refl

    push : (xs : List Event) → list_any (is_back_of k) (xs ++ e ∷ []) ≡ true
    push [] = ap (λ b. b || false) hit
    push (x ∷ xs) = ap (λ b. is_back_of k x || b) (push xs) ∙ or_true (is_back_of k x)

pub back_count : (history all : List Event) (e : Event) → all ≡ history ++ e ∷ [] → count_by is_back all ≡ count_by is_back history + cond (is_back e) 1 0
back_count history all e is = ap (count_by is_back) is ∙ sum_by_push (λ x. cond (is_back x) 1 0) history e

-- ---- what is owed bounds what is read

pub bounded : (looks : ℕ) (rows : List Row) (jobs imports backs : ℕ) → jobs ≡ length rows → IsPaid looks rows imports backs → IsBounded looks jobs imports backs
bounded looks rows jobs imports backs same paid = record { least = omega (arith, same, paid.0); most = omega (arith, same, paid.1) }

-- ---- nothing that waits gets an id that is held

held_some : (cache added : Entries) (entry : Action) (id : List ℕ) → action_id entry ≡ id → (x : Action) × (held_with cache added (Some entry) id ≡ Some x)
held_some cache added entry id same = by_parts (get cache id) (get added id)
  where
    by_parts : (a b : Option Action) → (x : Action) × (option_or a (option_or b (if bytes_eq (action_id entry) id then Some entry else None)) ≡ Some x)
    by_parts (Some x) b = (x, refl)
    by_parts None (Some x) = (x, refl)
    by_parts None None = (entry, ap (λ b. if b then Some entry else None) ((bytes_eq-Decides (action_id entry) id).1 same))

-- a job that is placed where something is held isn't ready
unready : (h : Holdings) (now : JobStates) (o : Option Job) (s : JobStatus) (x : Option Action) (a : Action) (e : Action) → HasStatus h now o s x → s ≡ Ready → x ≡ Some a → h (action_id a) ≡ Some e → ⊥
unready h now None s x a e st ready its there = let c : Blocked ≡ Ready = sym st.0 ∙ ready in cc
unready h now (Some job) s x a e st ready its there = by_verdict st.0 st.2
  where
    placed : (p : Option Action) → p ≡ Some e → IsPlaced p s → ⊥
    placed None is p = let c : None ≡ Some e = is in cc
    placed (Some y) is p = let c : Done p.0 ≡ Ready = sym p.2 ∙ ready in cc

    by_verdict : (v : Readiness) → Follows h v s x → ⊥
    by_verdict Wait f = let c : Waiting ≡ Ready = sym f.0 ∙ ready in cc
    by_verdict Stop f = let c : Blocked ≡ Ready = sym f.0 ∙ ready in cc
    by_verdict (Act b) f =
        let t : Some b ≡ Some a = sym f.1 ∙ its in
        let acts : b ≡ a = cc in
        placed (h (action_id b)) (ap (λ z. h (action_id z)) acts ∙ there) f.0

pub under_first : (J : List Job) (h : Holdings) (I : List (List ℕ)) (O N : List Row) → ArePropagatedBy J I O → ((first : JobStates) → IsUnder J h first (job_states_of O) → IsUnder J h first (job_states_of N)) → IsUnder J h (job_states_of O) (job_states_of N)
under_first J h I O N good under = under (job_states_of O) (start_under J h (job_states_of O) (λ k w. action_row O k ∙ good.bare k (sym (status_row O k) ∙ w)))

pub none_new : (J : List Job) (h : Holdings) (O N : List Row) (id : List ℕ) (e : Action) → IsUnder J h (job_states_of O) (job_states_of N) → h id ≡ Some e → (k : ℕ) → is_newly_ready O N id k ≡ false
none_new J h O N id e under there k = none_of (is_newly_ready O N id k) (λ new. (
    let p = both_of (is_waiting (row_at O k).status) (is_ready (row_at N k).status && has_action_id id (row_at N k).action) new in
    let q = both_of (is_ready (row_at N k).status) (has_action_id id (row_at N k).action) p.1 in
    let a = id_is id (row_at N k).action q.1 in
    let ready : status_at (job_states_of N).statuses k ≡ Ready = status_row N k ∙ ready_is (row_at N k).status q.0 in
    by_waiting (under.waiting k (ap is_waiting (status_row O k) ∙ p.0)) ready a.0 (action_row N k ∙ a.1) (ap h a.2 ∙ there)))
  where
    by_waiting : (status_at (job_states_of N).statuses k ≡ Waiting) ⊎ HasStatus h (job_states_of N) (slice_get J k) (status_at (job_states_of N).statuses k) (action_at (job_states_of N).actions k) → status_at (job_states_of N).statuses k ≡ Ready → (a : Action) → action_at (job_states_of N).actions k ≡ Some a → h (action_id a) ≡ Some e → ⊥
    by_waiting (inl w) ready a its t = let c : Waiting ≡ Ready = sym w ∙ ready in cc
    by_waiting (inr st) ready a its t = unready h (job_states_of N) (slice_get J k) (status_at (job_states_of N).statuses k) (action_at (job_states_of N).actions k) a e st ready its t

pub held_there : (cache added : Entries) (entry : Action) (id : List ℕ) → action_id entry ≡ id → (x : Action) × (held_with cache added (Some entry) id ≡ Some x)
held_there cache added entry id same = held_some cache added entry id same

pub carried_on : (J : List Job) (h : Holdings) (I : List (List ℕ)) (O N : List Row) → ArePropagatedBy J I O → ArePropagatedBy J I N → ((first : JobStates) → IsUnder J h first (job_states_of O) → IsUnder J h first (job_states_of N)) → Waits J N [] (λ j. false) → Propagated J h (job_states_of O) (job_states_of N)
carried_on J h I O N good next under waits = ends_carried J h I (job_states_of O) N next (under_first J h I O N good under) waits

-- who waited doesn't run
pub waited_rests : (J : List Job) (h : Holdings) (O N : List Row) → Propagated J h (job_states_of O) (job_states_of N) → (k : ℕ) → is_waiting (row_at O k).status ≡ true → is_running (row_at N k).status ≡ false
waited_rests J h O N carried k w = ap is_running (sym (status_row N k)) ∙ stands_rests h (job_states_of N) (slice_get J k) (status_at (job_states_of N).statuses k) (action_at (job_states_of N).actions k) (carried.waiting k (ap is_waiting (status_row O k) ∙ w))

-- ---- at first

pub first_standings : (J : List Job) (I : List (List ℕ)) (R : List Row) → AreFirstRows J I (length J) R → job_states_of R ≡ unopened J
first_standings J I R first = standings_parts (job_states_of R) (unopened J) (statuses J R first.count (λ k lt. ap (λ (r : Row). r.status) (first.each k lt))) (actions J R first.count (λ k lt. ap (λ (r : Row). r.action) (first.each k lt)))
  where
    statuses : (js : List Job) (rs : List Row) → length rs ≡ length js → ((k : ℕ) → k < length js → (row_at rs k).status ≡ Waiting) → map (λ (r : Row). r.status) rs ≡ map (λ (job : Job). Waiting) js
    statuses [] [] n each = refl
    statuses [] (r ∷ rs) n each = absurd (omega (arith, n))
    statuses (j ∷ js) [] n each = absurd (omega (arith, n))
    statuses (j ∷ js) (r ∷ rs) n each = ap (λ s. s ∷ map (λ (r : Row). r.status) rs) (each 0 (omega arith)) ∙ ap (λ l. Waiting ∷ l) (statuses js rs (omega (arith, n)) (λ k lt. each (suc k) (omega (arith, lt))))

    actions : (js : List Job) (rs : List Row) → length rs ≡ length js → ((k : ℕ) → k < length js → (row_at rs k).action ≡ None) → map (λ (r : Row). r.action) rs ≡ map (λ (job : Job). None) js
    actions [] [] n each = refl
    actions [] (r ∷ rs) n each = absurd (omega (arith, n))
    actions (j ∷ js) [] n each = absurd (omega (arith, n))
    actions (j ∷ js) (r ∷ rs) n each = ap (λ (a : Option Action). a ∷ map (λ (r : Row). r.action) rs) (each 0 (omega arith)) ∙ ap (λ (l : List (Option Action)). None ∷ l) (actions js rs (omega (arith, n)) (λ k lt. each (suc k) (omega (arith, lt))))
