-- The index of a board agrees with its rows, before and after each event.
use Rattle.std.proofs.Common.{◌≡◌, ℕ, ◌+◌, ◌<◌, ◌≤◌, Bool, true, false, ◌&&◌, ◌||◌, cond, eqb, List, [], ◌∷◌, length, get_or, count_by, Option, Some, None, refl, sym, ap, ◌∙◌, subst, arith, inl, inr, ◌⊎◌}
use Rattle.std.specs.Prelude.{if◌then◌else◌, is_none}
use Rattle.std.specs.List.{list_any, All, Contains}
use Rattle.std.specs.Str.{bytes_eq}
use Rattle.std.proofs.lemmas.Slice.Eq.{bytes_eq-Decides}
use Rattle.std.proofs.lemmas.List.Sums.{sum_by-cons}
use Rattle.std.proofs.lemmas.List.Elements.{Contains-get_or}
use Rattle.ws_action.specs.Actions.{Action, action_id}
use Rattle.ws_board.specs.declared.work.JobStatus.{JobStatus}
use Rattle.ws_board.specs.declared.work.JobStatus.TheVariants.{Waiting, Ready, Running, Blocked, Done}
use Rattle.ws_board.specs.declared.table.Row.{Row}
use Rattle.ws_board.specs.declared.index.Run.{Run}
use Rattle.ws_board.specs.declared.index.Ready.{Ready as AReady}
use Rattle.ws_board.specs.Machine.{is_waiting, is_ready, is_active, is_running, has_action_id}
use Rattle.ws_board.specs.Rows.{times, those_of, is_active_of, is_newly_ready}
use Rattle.ws_board.specs.Table.{row_at, job_states_of}
use Rattle.ws_board.specs.Indexes.{is_unrun, IsRunAt, AgreesBy}
use Rattle.ws_board.proofs.Carry.{waiting_or, waiting_is}
use Rattle.ws_board.proofs.Listing.{contains_any, times_some, times_any}
use Rattle.ws_board.proofs.Marking.{active_inside}

pub same_bool : (a b : Bool) → (a ≡ true → b ≡ true) → (b ≡ true → a ≡ true) → a ≡ b
same_bool true b f g = sym (f refl)
same_bool false true f g = g refl
same_bool false false f g = refl

pub both_of : (a b : Bool) → (a && b) ≡ true → (a ≡ true) × (b ≡ true)
both_of true b h = (refl, h)
both_of false b h = absurd (cc)

pub both_and : (a b : Bool) → a ≡ true → b ≡ true → (a && b) ≡ true
both_and true b h k = k
both_and false b h k = absurd (cc)

pub none_of : (b : Bool) → (b ≡ true → ⊥) → b ≡ false
none_of true h = absurd (h refl)
none_of false h = refl

one_of : (b : Bool) → 0 < (if b then 1 else 0) → b ≡ true
one_of true h = refl
one_of false h = absurd (omega (arith, h))

pub ready_is : (s : JobStatus) → is_ready s ≡ true → s ≡ Ready
ready_is Waiting h = absurd (cc)
ready_is Ready h = refl
ready_is (Running hand) h = absurd (cc)
ready_is Blocked h = absurd (cc)
ready_is (Done good) h = absurd (cc)

pub running_is : (s : JobStatus) → is_running s ≡ true → (hand : ℕ) × (s ≡ Running hand)
running_is Waiting h = absurd (cc)
running_is Ready h = absurd (cc)
running_is (Running hand) h = (hand, refl)
running_is Blocked h = absurd (cc)
running_is (Done good) h = absurd (cc)

active_cases : (s : JobStatus) → is_active s ≡ true → (is_ready s ≡ true) ⊎ (is_running s ≡ true)
active_cases Waiting h = absurd (cc)
active_cases Ready h = inl refl
active_cases (Running hand) h = inr refl
active_cases Blocked h = absurd (cc)
active_cases (Done good) h = absurd (cc)

pub id_is : (id : List ℕ) (a : Option Action) → has_action_id id a ≡ true → (action : Action) × (a ≡ Some action) × (action_id action ≡ id)
id_is id None h = absurd (cc)
id_is id (Some action) h = (action, refl, (bytes_eq-Decides (action_id action) id).0 h)

pub has_its : (id : List ℕ) (a : Option Action) (action : Action) → a ≡ Some action → action_id action ≡ id → has_action_id id a ≡ true
has_its id a action is same = ap (has_action_id id) is ∙ (bytes_eq-Decides (action_id action) id).1 same

pub has_same : (id : List ℕ) (a : Option Action) (action : Action) → a ≡ Some action → has_action_id id a ≡ true → action_id action ≡ id
has_same id a action is h = (bytes_eq-Decides (action_id action) id).0 (ap (has_action_id id) (sym is) ∙ h)

pub unrun_has : (run : List ℕ → Option Run) (a : Option Action) → is_unrun run a ≡ true → (action : Action) × (a ≡ Some action) × (is_none (run (action_id action)) ≡ true)
unrun_has run None h = absurd (cc)
unrun_has run (Some action) h = (action, refl, h)

unrun_some : (run : List ℕ → Option Run) (a : Option Action) (action : Action) → a ≡ Some action → is_unrun run a ≡ is_none (run (action_id action))
unrun_some run a action is = ap (is_unrun run) is

pub none_is : {X : Type 0} (o : Option X) → is_none o ≡ true → o ≡ None
none_is None h = refl
none_is (Some x) h = absurd (cc)

-- ---- which jobs may be given at last

-- among those that became ready is the job, with an id that nobody runs
released_has : (run : List ℕ → Option Run) (ready : List AReady) (k : ℕ) → list_any (λ one. (eqb one.job k) && is_none (run one.id)) ready ≡ true → (id : List ℕ) × (0 < times k (those_of id ready)) × (is_none (run id) ≡ true)
released_has run [] k h = absurd (cc)
released_has run (one ∷ ready) k h = by_head ((eqb one.job k) && is_none (run one.id)) refl (λ e. released_has run ready k e)
  where
    more : (id : List ℕ) → times k (those_of id ready) ≤ times k (those_of id (one ∷ ready))
    more id = by_id (bytes_eq one.id id)
      where
        by_id : (b : Bool) → times k (those_of id ready) ≤ times k (if b then one.job ∷ those_of id ready else those_of id ready)
        by_id true = omega (arith, sum_by-cons (λ j. cond (eqb j k) 1 0) one.job (those_of id ready))
        by_id false = omega arith

    by_head : (b : Bool) → ((eqb one.job k) && is_none (run one.id)) ≡ b → (list_any (λ one. (eqb one.job k) && is_none (run one.id)) ready ≡ true → (id : List ℕ) × (0 < times k (those_of id ready)) × (is_none (run id) ≡ true))
        → (id : List ℕ) × (0 < times k (those_of id (one ∷ ready))) × (is_none (run id) ≡ true)
    by_head true e later =
        let p = both_of (eqb one.job k) (is_none (run one.id)) e in
        let here : those_of one.id (one ∷ ready) ≡ one.job ∷ those_of one.id ready = ap (λ b. if b then one.job ∷ those_of one.id ready else those_of one.id ready) ((bytes_eq-Decides one.id one.id).1 refl) in
        let n : times k (those_of one.id (one ∷ ready)) ≡ times k (one.job ∷ those_of one.id ready) = ap (times k) here in
        let a : ◌≡◌ {A = ℕ} (cond (eqb one.job k) 1 0) 1 = ap (λ b. cond b 1 0) p.0 in
        (one.id, omega (arith, n, a, sum_by-cons (λ j. cond (eqb j k) 1 0) one.job (those_of one.id ready)), p.1)
    by_head false e later =
        let rest = later (sym (ap (λ b. b || list_any (λ one. (eqb one.job k) && is_none (run one.id)) ready) e) ∙ h) in
        (rest.0, omega (arith, rest.1, more rest.0), rest.2)

has_released : (run : List ℕ → Option Run) (ready : List AReady) (k : ℕ) (id : List ℕ) → 0 < times k (those_of id ready) → is_none (run id) ≡ true → list_any (λ one. (eqb one.job k) && is_none (run one.id)) ready ≡ true
has_released run [] k id some none = absurd (omega (arith, some))
has_released run (one ∷ ready) k id some none = by_id (bytes_eq one.id id) refl (λ s. has_released run ready k id s none) some
  where
    or_first : (b c : Bool) → b ≡ true → (b || c) ≡ true
    or_first true c e = refl
    or_first false c e = absurd (cc)

    or_second : (b c : Bool) → c ≡ true → (b || c) ≡ true
    or_second true c e = refl
    or_second false c e = e

    by_job : (b : Bool) → eqb one.job k ≡ b → bytes_eq one.id id ≡ true → (0 < times k (those_of id ready) → list_any (λ one. (eqb one.job k) && is_none (run one.id)) ready ≡ true) → 0 < times k (one.job ∷ those_of id ready)
        → (((eqb one.job k) && is_none (run one.id)) || list_any (λ one. (eqb one.job k) && is_none (run one.id)) ready) ≡ true
    by_job true e same later s =
        or_first ((eqb one.job k) && is_none (run one.id)) (list_any (λ one. (eqb one.job k) && is_none (run one.id)) ready)
        (both_and (eqb one.job k) (is_none (run one.id)) e (ap (λ i. is_none (run i)) ((bytes_eq-Decides one.id id).0 same) ∙ none))
    by_job false e same later s =
        let a : ◌≡◌ {A = ℕ} (cond (eqb one.job k) 1 0) 0 = ap (λ b. cond b 1 0) e in
        or_second ((eqb one.job k) && is_none (run one.id)) (list_any (λ one. (eqb one.job k) && is_none (run one.id)) ready)
        (later (omega (arith, s, a, sum_by-cons (λ j. cond (eqb j k) 1 0) one.job (those_of id ready))))

    by_id : (b : Bool) → bytes_eq one.id id ≡ b → (0 < times k (those_of id ready) → list_any (λ one. (eqb one.job k) && is_none (run one.id)) ready ≡ true) → 0 < times k (if b then one.job ∷ those_of id ready else those_of id ready)
        → (((eqb one.job k) && is_none (run one.id)) || list_any (λ one. (eqb one.job k) && is_none (run one.id)) ready) ≡ true
    by_id true same later s = by_job (eqb one.job k) refl same later s
    by_id false same later s = or_second ((eqb one.job k) && is_none (run one.id)) (list_any (λ one. (eqb one.job k) && is_none (run one.id)) ready) (later s)

-- from the one to the other, jobs that waited became ready, and these joined those of their ids
pub released_agrees : (O N : List Row) (jobs more : List ℕ → List ℕ) (run ran : List ℕ → Option Run) (free freed : ℕ → Bool) (count running : ℕ) (ready : List AReady)
    → AgreesBy O jobs run free count running
    → length N ≡ length O
    → ((k : ℕ) → is_waiting (row_at O k).status ≡ false → ((row_at N k).status ≡ (row_at O k).status) × ((row_at N k).action ≡ (row_at O k).action))
    → ((k : ℕ) → is_waiting (row_at O k).status ≡ true → is_running (row_at N k).status ≡ false)
    → ((k : ℕ) (id : List ℕ) → times k (those_of id ready) ≡ (if is_newly_ready O N id k then 1 else 0))
    → count_by is_running (job_states_of N).statuses ≡ count_by is_running (job_states_of O).statuses
    → ((id : List ℕ) (k : ℕ) → times k (more id) ≡ times k (jobs id) + times k (those_of id ready))
    → ((id : List ℕ) → ran id ≡ run id)
    → ((k : ℕ) → freed k ≡ (if list_any (λ one. (eqb one.job k) && is_none (ran one.id)) ready then true else free k))
    → AgreesBy N more ran freed count running
released_agrees O N jobs more run ran free freed count running ready agrees same others rests listed runs joined ran_is freed_is = record {
  jobs = λ id k. joined id k ∙ counts id k (waiting_or (row_at O k).status);
  runs = λ id hand job. (
    λ e. forth job hand id ((agrees.runs id hand job).0 (sym (ran_is id) ∙ e)),
    λ e. ran_is id ∙ (agrees.runs id hand job).1 (back job hand id e),
  );
  count = agrees.count ∙ sym same;
  free = λ k. freed_is k ∙ free_is k (waiting_or (row_at O k).status);
  running = agrees.running ∙ sym runs;
}
  where
    new_false : (id : List ℕ) (k : ℕ) → is_waiting (row_at O k).status ≡ false → is_newly_ready O N id k ≡ false
    new_false id k w = ap (λ b. b && (is_ready (row_at N k).status && has_action_id id (row_at N k).action)) w

    waits_not_active : (s : JobStatus) → is_waiting s ≡ true → is_active s ≡ false
    waits_not_active s w = ap is_active (waiting_is s w)

    waits_not_ready : (s : JobStatus) → is_waiting s ≡ true → is_ready s ≡ false
    waits_not_ready s w = ap is_ready (waiting_is s w)

    ready_or_not : (s : JobStatus) (b : Bool) → is_running s ≡ false → (is_active s && b) ≡ (is_ready s && b)
    ready_or_not Waiting b r = refl
    ready_or_not Ready b r = refl
    ready_or_not (Running hand) b r = absurd (cc)
    ready_or_not Blocked b r = refl
    ready_or_not (Done good) b r = refl

    counts : (id : List ℕ) (k : ℕ) → (is_waiting (row_at O k).status ≡ true) ⊎ (is_waiting (row_at O k).status ≡ false) → times k (jobs id) + times k (those_of id ready) ≡ (if is_active_of N id k then 1 else 0)
    counts id k (inl w) =
        let a : ◌≡◌ {A = ℕ} (if is_active_of O id k then 1 else 0) 0 = ap (λ b. if b && has_action_id id (row_at O k).action then 1 else 0) (waits_not_active (row_at O k).status w) in
        let b : ◌≡◌ {A = ℕ} (if is_newly_ready O N id k then 1 else 0) (if is_ready (row_at N k).status && has_action_id id (row_at N k).action then 1 else 0) = ap (λ b. if b && (is_ready (row_at N k).status && has_action_id id (row_at N k).action) then 1 else 0) w in
        let c : ◌≡◌ {A = ℕ} (if is_active_of N id k then 1 else 0) (if is_ready (row_at N k).status && has_action_id id (row_at N k).action then 1 else 0) = ap (λ b. if b then 1 else 0) (ready_or_not (row_at N k).status (has_action_id id (row_at N k).action) (rests k w)) in
        omega (arith, agrees.jobs id k, listed k id, a, b, c)
    counts id k (inr w) =
        let p = others k w in
        let a : ◌≡◌ {A = ℕ} (if is_newly_ready O N id k then 1 else 0) 0 = ap (λ b. if b then 1 else 0) (new_false id k w) in
        let b : ◌≡◌ {A = ℕ} (if is_active_of N id k then 1 else 0) (if is_active_of O id k then 1 else 0) = ap (λ s. if is_active s && has_action_id id (row_at N k).action then 1 else 0) p.0 ∙ ap (λ (x : Option Action). if is_active (row_at O k).status && has_action_id id x then 1 else 0) p.1 in
        omega (arith, agrees.jobs id k, listed k id, a, b)

    forth : (job hand : ℕ) (id : List ℕ) → IsRunAt O id hand job → IsRunAt N id hand job
    forth job hand id (s, has) = let p = others job (ap is_waiting s) in (p.0 ∙ s, ap (has_action_id id) p.1 ∙ has)

    back : (job hand : ℕ) (id : List ℕ) → IsRunAt N id hand job → IsRunAt O id hand job
    back job hand id (s, has) = by_waiting (waiting_or (row_at O job).status)
      where
        by_waiting : (is_waiting (row_at O job).status ≡ true) ⊎ (is_waiting (row_at O job).status ≡ false) → IsRunAt O id hand job
        by_waiting (inl w) = let c : true ≡ false = sym (ap is_running s) ∙ rests job w in absurd (cc)
        by_waiting (inr w) = let p = others job w in (sym p.0 ∙ s, ap (has_action_id id) (sym p.1) ∙ has)

    unrun_same : (a : Option Action) → is_unrun ran a ≡ is_unrun run a
    unrun_same None = refl
    unrun_same (Some action) = ap is_none (ran_is (action_id action))

    released : ℕ → Bool
    released k = list_any (λ one. (eqb one.job k) && is_none (ran one.id)) ready

    new_of : (k : ℕ) → released k ≡ true → (id : List ℕ) × (is_newly_ready O N id k ≡ true) × (is_none (ran id) ≡ true)
    new_of k h = let r = released_has ran ready k h in (r.0, one_of (is_newly_ready O N r.0 k) (subst (λ n. 0 < n) (listed k r.0) r.1), r.2)

    if_false : (b c : Bool) → b ≡ false → (if b then true else c) ≡ c
    if_false b c e = ap (λ x. if x then true else c) e

    if_or : (b c : Bool) → c ≡ false → (if b then true else c) ≡ b
    if_or true c e = refl
    if_or false c e = e

    free_is : (k : ℕ) → (is_waiting (row_at O k).status ≡ true) ⊎ (is_waiting (row_at O k).status ≡ false) → (if released k then true else free k) ≡ (is_ready (row_at N k).status && is_unrun ran (row_at N k).action)
    free_is k (inr w) =
        let p = others k w in
        let none : released k ≡ false = none_of (released k) (λ h. (let n = new_of k h in let c : false ≡ true = sym (new_false n.0 k w) ∙ n.1 in cc)) in
        if_false (released k) (free k) none ∙ agrees.free k ∙ ap (λ s. is_ready s && is_unrun run (row_at O k).action) (sym p.0) ∙ ap (λ (a : Option Action). is_ready (row_at N k).status && is_unrun run a) (sym p.1)
        ∙ ap (λ b. is_ready (row_at N k).status && b) (sym (unrun_same (row_at N k).action))
    free_is k (inl w) =
        let shut : free k ≡ false = agrees.free k ∙ ap (λ b. b && is_unrun run (row_at O k).action) (waits_not_ready (row_at O k).status w) in
        if_or (released k) (free k) shut ∙ same_bool (released k) (is_ready (row_at N k).status && is_unrun ran (row_at N k).action) there here
      where
        there : released k ≡ true → (is_ready (row_at N k).status && is_unrun ran (row_at N k).action) ≡ true
        there h =
            let n = new_of k h in
            let p = both_of (is_waiting (row_at O k).status) (is_ready (row_at N k).status && has_action_id n.0 (row_at N k).action) n.1 in
            let q = both_of (is_ready (row_at N k).status) (has_action_id n.0 (row_at N k).action) p.1 in
            let a = id_is n.0 (row_at N k).action q.1 in
            both_and (is_ready (row_at N k).status) (is_unrun ran (row_at N k).action) q.0 (unrun_some ran (row_at N k).action a.0 a.1 ∙ ap (λ i. is_none (ran i)) a.2 ∙ n.2)

        here : (is_ready (row_at N k).status && is_unrun ran (row_at N k).action) ≡ true → released k ≡ true
        here h =
            let p = both_of (is_ready (row_at N k).status) (is_unrun ran (row_at N k).action) h in
            let a = unrun_has ran (row_at N k).action p.1 in
            let id = action_id a.0 in
            let new : is_newly_ready O N id k ≡ true = both_and (is_waiting (row_at O k).status) (is_ready (row_at N k).status && has_action_id id (row_at N k).action) w (both_and (is_ready (row_at N k).status) (has_action_id id (row_at N k).action) p.0 (has_its id (row_at N k).action a.0 a.1 refl)) in
            let one : ◌≡◌ {A = ℕ} (if is_newly_ready O N id k then 1 else 0) 1 = ap (λ b. if b then 1 else 0) new in
            has_released ran ready k id (omega (arith, listed k id, one)) a.2

-- ---- one id that a worker runs

module _ (R : List Row) (jobs : List ℕ → List ℕ) (run : List ℕ → Option Run) (free : ℕ → Bool) (count running : ℕ) (agrees : AgreesBy R jobs run free count running) where
  pub listed_active : (id : List ℕ) (k : ℕ) → list_any (λ j. eqb j k) (jobs id) ≡ is_active_of R id k
  listed_active id k = times_any (jobs id) k (is_active_of R id k) (agrees.jobs id k)

  -- a job that is ready or runs stands with its id
  pub listed_some : (id : List ℕ) (k : ℕ) → is_active_of R id k ≡ true → 0 < times k (jobs id)
  listed_some id k a = times_some (jobs id) k (listed_active id k ∙ a)

  pub jobs_inside : (id : List ℕ) → All (λ j. j < count) (jobs id)
  jobs_inside id k d lt =
      let job = get_or (jobs id) k d in
      let c : Contains (jobs id) job = Contains-get_or (jobs id) k d lt in
      let a : is_active_of R id job ≡ true = sym (listed_active id job) ∙ contains_any (jobs id) job c in
      omega (arith, active_inside id R job a, agrees.count)

  -- who runs an id is one job
  pub one_run : (id : List ℕ) (hand other j k : ℕ) → IsRunAt R id hand j → IsRunAt R id other k → j ≡ k
  one_run id hand other j k first second =
      let e : Some (record { hand = hand; job = j }) ≡ Some (record { hand = other; job = k }) = sym ((agrees.runs id hand j).1 first) ∙ (agrees.runs id other k).1 second in
      ap (λ o. job_or o) e
    where
      job_or : Option Run → ℕ
      job_or None = 0
      job_or (Some r) = r.job

  -- the id of a job that may be given isn't run
  pub free_unrun : (k : ℕ) → free k ≡ true → (action : Action) × ((row_at R k).status ≡ Ready) × ((row_at R k).action ≡ Some action) × (run (action_id action) ≡ None)
  free_unrun k f =
      let p = both_of (is_ready (row_at R k).status) (is_unrun run (row_at R k).action) (sym (agrees.free k) ∙ f) in
      let a = unrun_has run (row_at R k).action p.1 in
      (a.0, ready_is (row_at R k).status p.0, a.1, none_is (run (action_id a.0)) a.2)

  -- so of its action, however it is read
  pub free_so : (k : ℕ) (a : Action) → free k ≡ true → (row_at R k).action ≡ Some a → ((row_at R k).status ≡ Ready) × (run (action_id a) ≡ None) × (is_active_of R (action_id a) k ≡ true)
  free_so k a f its =
      let u = free_unrun k f in
      let t : Some u.0 ≡ Some a = sym u.2 ∙ its in
      let acts : u.0 ≡ a = cc in (
        u.1,
        ap (λ z. run (action_id z)) (sym acts) ∙ u.3,
        both_and (is_active (row_at R k).status) (has_action_id (action_id a) (row_at R k).action) (ap is_active u.1) (has_its (action_id a) (row_at R k).action a its refl),
      )

  -- nobody runs it
  pub unrun_none : (id : List ℕ) → run id ≡ None → (k hand : ℕ) → IsRunAt R id hand k → ⊥
  unrun_none id none k hand runs = let c : ◌≡◌ {A = Option Run} None (Some (record { hand = hand; job = k })) = sym none ∙ (agrees.runs id hand k).1 runs in absurd (cc)

-- what says the same agrees as well
pub same_agrees : (R : List Row) (jobs more : List ℕ → List ℕ) (run ran : List ℕ → Option Run) (free freed : ℕ → Bool) (count many running now : ℕ) → AgreesBy R jobs run free count running
    → ((id : List ℕ) → more id ≡ jobs id) → ((id : List ℕ) → ran id ≡ run id) → ((k : ℕ) → freed k ≡ free k) → many ≡ count → now ≡ running → AgreesBy R more ran freed many now
same_agrees R jobs more run ran free freed count many running now agrees more_is ran_is freed_is many_is now_is = record {
  jobs = λ id k. ap (times k) (more_is id) ∙ agrees.jobs id k;
  runs = λ id hand job. (λ e. (agrees.runs id hand job).0 (sym (ran_is id) ∙ e), λ p. ran_is id ∙ (agrees.runs id hand job).1 p);
  count = many_is ∙ agrees.count;
  free = λ k. freed_is k ∙ agrees.free k ∙ ap (λ b. is_ready (row_at R k).status && b) (sym (unrun_same (row_at R k).action));
  running = now_is ∙ agrees.running;
}
  where
    unrun_same : (a : Option Action) → is_unrun ran a ≡ is_unrun run a
    unrun_same None = refl
    unrun_same (Some action) = ap is_none (ran_is (action_id action))
