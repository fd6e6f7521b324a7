-- One job is carried on.
use Rattle.std.proofs.Common.{◌≡◌, ℕ, ◌+◌, ◌-◌, ◌<◌, ◌≤◌, Bool, true, false, ◌&&◌, ◌||◌, cond, eqb, List, [], ◌∷◌, ◌++◌, length, count_by, Option, Some, None, refl, sym, ap, ◌∙◌, subst, arith, inl, inr}
use Rattle.std.specs.Prelude.{if◌then◌else◌}
use Rattle.std.specs.List.{list_any, slice_get, slice_index_or}
use Rattle.std.specs.Str.{bytes_eq}
use Rattle.std.proofs.Math.ListN.{set, length-set}
use Rattle.std.proofs.lemmas.Bool.{cases_eq}
use Rattle.std.proofs.lemmas.List.{set-get_or}
use Rattle.std.proofs.lemmas.List.Sums.{sum_by-append, sum_by_push}
use Rattle.std.proofs.lemmas.List.{length-append}
use Rattle.ws_action.specs.Actions.{Action, action_id}
use Rattle.ws_board.specs.declared.work.JobStatus.{JobStatus}
use Rattle.ws_board.specs.declared.work.JobStatus.TheVariants.{Waiting, Ready, Running, Blocked, Done}
use Rattle.ws_board.specs.declared.table.Row.{Row}
use Rattle.ws_board.specs.declared.index.Ready.{Ready as AReady}
use Rattle.ws_board.specs.Work.{Work, Job, JobStates}
use Rattle.ws_board.specs.Machine.{Holdings, HasStatus, Readiness, Wait, Stop, Act, IsReadiness, Follows, IsPlaced, is_open, is_waiting, is_ready, is_running, status_at, action_at, has_action_id}
use Rattle.ws_board.specs.Propagation.{IsUnder}
use Rattle.ws_board.specs.Ends.{job_imports_at, work_in}
use Rattle.ws_board.specs.Rows.{times, those_of, is_newly_ready, ready_of, due, owed, untold, importer_reads, watched, AreKnownBy, ArePropagatedBy, AllPast, AreWithin, IsOpenPast, IsHeldUp, Waits, RowBecomes}
use Rattle.ws_board.specs.Table.{row_at, job_states_of}
use Rattle.ws_board.proofs.Carry.{keep_under, waiting_is, waiting_or, waits_bare}
use Rattle.ws_board.proofs.Runs.{stands_rests}
use Rattle.ws_board.proofs.Standing.{status_row, action_row, length_statuses, length_actions, statuses_set, actions_set, standings_parts, row_same, row_other, open_inside, owed_set, runs_set, opens_set}
use Rattle.ws_board.proofs.Listing.{any_push, eqb_same, eqb_not}

pub waits_runs_not : (s : JobStatus) → is_waiting s ≡ true → is_running s ≡ false
waits_runs_not s w = ap is_running (waiting_is s w)

pub those_append : (id : List ℕ) (xs ys : List AReady) → those_of id (xs ++ ys) ≡ those_of id xs ++ those_of id ys
those_append id [] ys = refl
those_append id (x ∷ xs) ys = by_id (bytes_eq x.id id) (those_append id xs ys)
  where
    by_id : (b : Bool) → those_of id (xs ++ ys) ≡ those_of id xs ++ those_of id ys → (if b then x.job ∷ those_of id (xs ++ ys) else those_of id (xs ++ ys)) ≡ (if b then x.job ∷ those_of id xs else those_of id xs) ++ those_of id ys
    by_id true same = ap (λ l. x.job ∷ l) same
    by_id false same = same

one_time : (job k : ℕ) (b : Bool) → times k (if b then job ∷ [] else []) ≡ (if (eqb job k) && b then 1 else 0)
one_time job k true = by_eq (eqb job k)
  where
    by_eq : (b : Bool) → ◌≡◌ {A = ℕ} (0 + (if b then 1 else 0)) (if b && true then 1 else 0)
    by_eq true = refl
    by_eq false = refl
one_time job k false = by_eq (eqb job k)
  where
    by_eq : (b : Bool) → ◌≡◌ {A = ℕ} 0 (if b && false then 1 else 0)
    by_eq true = refl
    by_eq false = refl

none_time : (b : Bool) → ◌≡◌ {A = ℕ} 0 (if b && false then 1 else 0)
none_time true = refl
none_time false = refl

pub new_times : (job k : ℕ) (id : List ℕ) (s : JobStatus) (a : Option Action) → times k (those_of id (ready_of job s a)) ≡ (if (eqb job k) && (is_ready s && has_action_id id a) then 1 else 0)
new_times job k id Ready (Some a) = one_time job k (bytes_eq (action_id a) id)
new_times job k id Ready None = none_time (eqb job k)
new_times job k id Waiting a = none_time (eqb job k)
new_times job k id (Running hand) a = none_time (eqb job k)
new_times job k id Blocked a = none_time (eqb job k)
new_times job k id (Done good) a = none_time (eqb job k)

-- a job that stands as it stood isn't new
pub not_new : (rows : List Row) (id : List ℕ) (k : ℕ) → is_newly_ready rows rows id k ≡ false
not_new rows id k = by_status (row_at rows k).status (has_action_id id (row_at rows k).action)
  where
    by_status : (s : JobStatus) (b : Bool) → (is_waiting s && (is_ready s && b)) ≡ false
    by_status Waiting b = refl
    by_status Ready b = refl
    by_status (Running hand) b = refl
    by_status Blocked b = refl
    by_status (Done good) b = refl

or_grows : (a b c : Bool) → (a || b) ≡ true → (b ≡ true → c ≡ true) → (a || c) ≡ true
or_grows true b c h f = refl
or_grows false b c h f = f h

or_true : (b : Bool) → (b || true) ≡ true
or_true true = refl
or_true false = refl

or_left : (a b : Bool) → a ≡ true → (a || b) ≡ true
or_left true b h = refl
or_left false b h = absurd (cc)

-- what waits has work
pub waits_work : (h : Holdings) (now : JobStates) (o : Option Job) (s : JobStatus) (x : Option Action) → HasStatus h now o s x → s ≡ Waiting → (work : Work) × (work_in o ≡ Some work)
waits_work h now None s x st w = let c : Blocked ≡ Waiting = sym st.0 ∙ w in absurd (cc)
waits_work h now (Some job) s x st w = by_verdict st.0 job.work refl st.1 st.2
  where
    placed : (p : Option Action) → IsPlaced p s → ⊥
    placed None p = let c : Ready ≡ Waiting = sym p ∙ w in cc
    placed (Some e) p = let c : Done p.0 ≡ Waiting = sym p.2 ∙ w in cc

    by_verdict : (v : Readiness) (o : Option Work) → job.work ≡ o → IsReadiness h now job.work job.imports v → Follows h v s x → (work : Work) × (job.work ≡ Some work)
    by_verdict v (Some work) is verdict f = (work, is)
    by_verdict Wait None is verdict f = let c : Wait ≡ Stop = subst (λ o. IsReadiness h now o job.imports Wait) is verdict in absurd (cc)
    by_verdict Stop None is verdict f = let c : Blocked ≡ Waiting = sym f.0 ∙ w in absurd (cc)
    by_verdict (Act a) None is verdict f = absurd (placed (h (action_id a)) f.0)

module _ (h : Holdings) (J : List Job) (I : List (List ℕ)) (O N : List Row) (job : ℕ) (row : Row) (good : ArePropagatedBy J I O) (becomes : RowBecomes h J O job row) (written : N ≡ set O job row) where
  abbrev was : Row
  was = row_at O job

  waits : was.status ≡ Waiting
  waits = waiting_is was.status becomes.waited

  opened : is_open was.status ≡ true
  opened = ap is_open waits

  here : row_at N job ≡ row
  here = ap (λ rs. row_at rs job) written ∙ row_same O job row becomes.inside

  other : (k : ℕ) → (k ≡ job → ⊥) → row_at N k ≡ row_at O k
  other k ne = ap (λ rs. row_at rs k) written ∙ row_other O job k row ne

  count : length N ≡ length O
  count = ap length written ∙ length-set O job row

  -- what is settled stays
  shut : (k : ℕ) → is_open (row_at O k).status ≡ false → row_at N k ≡ row_at O k
  shut k s = other k (λ e. (let c : true ≡ false = sym opened ∙ ap (λ i. is_open (row_at O i).status) (sym e) ∙ s in cc))

  rows_same : {X : Type 0} (f : Row → X) → f row ≡ f was → (k : ℕ) → f (row_at N k) ≡ f (row_at O k)
  rows_same f same k = elim (cases_eq k job) [
    | inl e ↦ ap (λ i. f (row_at N i)) e ∙ ap f here ∙ same ∙ ap (λ i. f (row_at O i)) (sym e)
    | inr ne ↦ ap f (other k ne)
  ]

  pub set_backs : (k : ℕ) → (row_at N k).was_back ≡ (row_at O k).was_back
  set_backs = rows_same (λ (r : Row). r.was_back) (ap (λ (r : Row). r.was_back) becomes.same)

  set_known : AreKnownBy J I N
  set_known = record {
    jobs = count ∙ good.known.jobs;
    lists = good.known.lists;
    fits = good.known.fits;
    imports = λ k. rows_same (λ (r : Row). r.imports) (ap (λ (r : Row). r.imports) becomes.same) k ∙ good.known.imports k;
    importers = λ k. rows_same (λ (r : Row). r.importers) (ap (λ (r : Row). r.importers) becomes.same) k ∙ good.known.importers k;
    named = good.known.named;
    inside = good.known.inside;
  }

  past_still : (j left : ℕ) → IsOpenPast J O j left → IsOpenPast J N j left
  past_still j left past i le lt = ap (λ (r : Row). is_open r.status) (shut (slice_index_or (job_imports_at J j) i 0) (past i le lt)) ∙ past i le lt

  set_past : AllPast J N
  set_past j w = elim (cases_eq j job) [
    | inl e ↦ subst (λ i. IsOpenPast J N i (row_at N i).left) (sym e) (subst (λ (r : Row). IsOpenPast J N job r.left) (sym here) (past_still job row.left becomes.past))
    | inr ne ↦ subst (λ (r : Row). IsOpenPast J N j r.left) (sym (other j ne)) (past_still j (row_at O j).left (good.past j (ap (λ (r : Row). is_waiting r.status) (sym (other j ne)) ∙ w)))
  ]

  set_within : AreWithin J N
  set_within j w = elim (cases_eq j job) [
    | inl e ↦ (
        let a : (row_at N j).left ≡ row.left = ap (λ i. (row_at N i).left) e ∙ ap (λ (r : Row). r.left) here in
        let b : length (job_imports_at J j) ≡ length (job_imports_at J job) = ap (λ i. length (job_imports_at J i)) e in
        omega (arith, a, b, becomes.fewer, good.within job becomes.waited))
    | inr ne ↦ subst (λ (r : Row). r.left ≤ length (job_imports_at J j)) (sym (other j ne)) (good.within j (ap (λ (r : Row). is_waiting r.status) (sym (other j ne)) ∙ w))
  ]

  set_bare : (k : ℕ) → (row_at N k).status ≡ Waiting → (row_at N k).action ≡ None
  set_bare k w = elim (cases_eq k job) [
    | inl e ↦ ap (λ i. (row_at N i).action) e ∙ ap (λ (r : Row). r.action) here
        ∙ waits_bare h (job_states_of O) (slice_get J job) row.status row.action becomes.stands (ap (λ (r : Row). r.status) (sym here) ∙ ap (λ i. (row_at N i).status) (sym e) ∙ w)
    | inr ne ↦ ap (λ (r : Row). r.action) (other k ne) ∙ good.bare k (ap (λ (r : Row). r.status) (sym (other k ne)) ∙ w)
  ]

  pub set_good : ArePropagatedBy J I N
  set_good = record { known = set_known; past = set_past; within = set_within; bare = set_bare }

  statuses : (job_states_of N).statuses ≡ set (job_states_of O).statuses job row.status
  statuses = ap (λ rs. (job_states_of rs).statuses) written ∙ statuses_set O job row

  actions : (job_states_of N).actions ≡ set (job_states_of O).actions job row.action
  actions = ap (λ rs. (job_states_of rs).actions) written ∙ actions_set O job row

  still_same : row.status ≡ Waiting → job_states_of N ≡ job_states_of O
  still_same w =
      let s : row.status ≡ status_at (job_states_of O).statuses job = w ∙ sym waits ∙ sym (status_row O job) in
      let a : row.action ≡ action_at (job_states_of O).actions job = waits_bare h (job_states_of O) (slice_get J job) row.status row.action becomes.stands w ∙ sym (good.bare job waits) ∙ sym (action_row O job) in
      standings_parts (job_states_of N) (job_states_of O)
      (statuses ∙ ap (set (job_states_of O).statuses job) s ∙ set-get_or (job_states_of O).statuses job Blocked)
      (actions ∙ ap (set (job_states_of O).actions job) a ∙ set-get_or (job_states_of O).actions job None)

  pub set_under : (first : JobStates) → IsUnder J h first (job_states_of O) → IsUnder J h first (job_states_of N)
  set_under first u = elim (waiting_or row.status) [
    | inl w ↦ subst (IsUnder J h first) (sym (still_same (waiting_is row.status w))) u
    | inr w ↦ (
        let inside : job < length (job_states_of O).statuses = omega (arith, becomes.inside, length_statuses O) in
        let within : job < length (job_states_of O).actions = omega (arith, becomes.inside, length_actions O) in
        keep_under J h (job_states_of O) (job_states_of N) job row.status row.action inside within (status_row O job ∙ waits) becomes.stands w statuses actions first u)
  ]

  pub set_runs_same : count_by is_running (job_states_of N).statuses ≡ count_by is_running (job_states_of O).statuses
  set_runs_same =
      let a : ◌≡◌ {A = ℕ} (cond (is_running row.status) 1 0) 0 = ap (λ b. cond b 1 0) (stands_rests h (job_states_of O) (slice_get J job) row.status row.action becomes.stands) in
      let b : ◌≡◌ {A = ℕ} (cond (is_running was.status) 1 0) 0 = ap (λ b. cond b 1 0) (waits_runs_not was.status becomes.waited) in
      let c : count_by is_running (job_states_of N).statuses ≡ count_by is_running (job_states_of (set O job row)).statuses = ap (λ rs. count_by is_running (job_states_of rs).statuses) written in
      omega (arith, runs_set O job row becomes.inside, a, b, c)

  new_here : (id : List ℕ) → is_newly_ready O N id job ≡ (is_ready row.status && has_action_id id row.action)
  new_here id = ap (λ b. b && (is_ready (row_at N job).status && has_action_id id (row_at N job).action)) becomes.waited ∙ ap (λ (r : Row). is_ready r.status && has_action_id id r.action) here

  new_other : (id : List ℕ) (k : ℕ) → (k ≡ job → ⊥) → is_newly_ready O N id k ≡ false
  new_other id k ne = ap (λ (r : Row). is_waiting (row_at O k).status && (is_ready r.status && has_action_id id r.action)) (other k ne) ∙ not_new O id k

  new_is : (id : List ℕ) (k : ℕ) → times k (those_of id (ready_of job row.status row.action)) ≡ (if is_newly_ready O N id k then 1 else 0)
  new_is id k = elim (cases_eq k job) [
    | inl e ↦ new_times job k id row.status row.action
        ∙ ap (λ b. if b && (is_ready row.status && has_action_id id row.action) then 1 else 0) (ap (λ i. eqb job i) e ∙ eqb_same job)
        ∙ ap (λ b. if b then 1 else 0) (sym (new_here id)) ∙ ap (λ i. if is_newly_ready O N id i then 1 else 0) (sym e)
    | inr ne ↦ new_times job k id row.status row.action
        ∙ ap (λ b. if b && (is_ready row.status && has_action_id id row.action) then 1 else 0) (eqb_not job k (λ e. ne (sym e)))
        ∙ ap (λ b. if b then 1 else 0) (sym (new_other id k ne))
  ]

  pub set_listed : (xs ys : List AReady) → ys ≡ xs ++ ready_of job row.status row.action → (k : ℕ) (id : List ℕ) → times k (those_of id ys) ≡ times k (those_of id xs) + (if is_newly_ready O N id k then 1 else 0)
  set_listed xs ys is k id =
      ap (λ l. times k (those_of id l)) is ∙ ap (times k) (those_append id xs (ready_of job row.status row.action))
      ∙ sum_by-append (λ j. cond (eqb j k) 1 0) (those_of id xs) (those_of id (ready_of job row.status row.action))
      ∙ ap (λ n. times k (those_of id xs) + n) (new_is id k)

  pub set_fewer : (xs ys : List ℕ) → ys ≡ (if is_open row.status then xs else (xs ++ job ∷ [])) → length ys + count_by is_open (job_states_of N).statuses ≤ length xs + count_by is_open (job_states_of O).statuses
  set_fewer xs ys is = by_open (is_open row.status) refl
    where
      by_open : (b : Bool) → is_open row.status ≡ b → length ys + count_by is_open (job_states_of N).statuses ≤ length xs + count_by is_open (job_states_of O).statuses
      by_open b e =
          let y : length ys ≡ length (if b then xs else (xs ++ job ∷ [])) = ap length is ∙ ap (λ b. length (if b then xs else (xs ++ job ∷ []))) e in
          let n : ◌≡◌ {A = ℕ} (cond (is_open row.status) 1 0) (cond b 1 0) = ap (λ b. cond b 1 0) e in
          let o : ◌≡◌ {A = ℕ} (cond (is_open was.status) 1 0) 1 = ap (λ b. cond b 1 0) opened in
          let c : count_by is_open (job_states_of N).statuses ≡ count_by is_open (job_states_of (set O job row)).statuses = ap (λ rs. count_by is_open (job_states_of rs).statuses) written in
          finish b y n o c
        where
          finish : (b : Bool) → length ys ≡ length (if b then xs else (xs ++ job ∷ [])) → ◌≡◌ {A = ℕ} (cond (is_open row.status) 1 0) (cond b 1 0) → ◌≡◌ {A = ℕ} (cond (is_open was.status) 1 0) 1
              → count_by is_open (job_states_of N).statuses ≡ count_by is_open (job_states_of (set O job row)).statuses → length ys + count_by is_open (job_states_of N).statuses ≤ length xs + count_by is_open (job_states_of O).statuses
          finish true y n o c = omega (arith, opens_set O job row becomes.inside, y, n, o, c)
          finish false y n o c = omega (arith, opens_set O job row becomes.inside, y, n, o, c, length-append xs (job ∷ []))

  pub set_paid : (looks next : ℕ) (xs ys : List ℕ) → ys ≡ (if is_open row.status then xs else (xs ++ job ∷ [])) → next + due row + (if is_open row.status then 0 else importer_reads row.importers) ≤ looks + due was + 3
      → next + owed N + untold I ys ≤ looks + owed O + untold I xs + 3
  set_paid looks next xs ys is paid = finish (is_open row.status) (ap (untold I) is) paid
    where
      each : (b : Bool) → untold I (if b then xs else (xs ++ job ∷ [])) ≡ untold I xs + (if b then 0 else importer_reads (length (slice_index_or I job [])))
      each true = omega arith
      each false = sum_by_push (λ k. importer_reads (length (slice_index_or I k []))) xs job

      count_is : row.importers ≡ length (slice_index_or I job [])
      count_is = ap (λ (r : Row). r.importers) becomes.same ∙ good.known.importers job

      finish : (b : Bool) → untold I ys ≡ untold I (if b then xs else (xs ++ job ∷ [])) → next + due row + (if b then 0 else importer_reads row.importers) ≤ looks + due was + 3 → next + owed N + untold I ys ≤ looks + owed O + untold I xs + 3
      finish true u p =
          let o : owed N ≡ owed (set O job row) = ap owed written in
          omega (arith, owed_set O job row becomes.inside, o, u, each true, p)
      finish false u p =
          let o : owed N ≡ owed (set O job row) = ap owed written in
          omega (arith, owed_set O job row becomes.inside, o, u, each false, p, count_is)

  -- ---- who waits

  told_more : (xs ys : List ℕ) → ys ≡ (if is_open row.status then xs else (xs ++ job ∷ [])) → (v : ℕ) → list_any (λ k. eqb k v) xs ≡ true → list_any (λ k. eqb k v) ys ≡ true
  told_more xs ys is v t = ap (list_any (λ k. eqb k v)) is ∙ by_open (is_open row.status)
    where
      by_open : (b : Bool) → list_any (λ k. eqb k v) (if b then xs else (xs ++ job ∷ [])) ≡ true
      by_open true = t
      by_open false = any_push (λ k. eqb k v) xs job ∙ or_left (list_any (λ k. eqb k v) xs) (eqb job v) t

  told_here : (xs ys : List ℕ) → ys ≡ (if is_open row.status then xs else (xs ++ job ∷ [])) → (is_open row.status || list_any (λ k. eqb k job) ys) ≡ true
  told_here xs ys is = by_open (is_open row.status) is
    where
      by_open : (b : Bool) → ys ≡ (if b then xs else (xs ++ job ∷ [])) → (b || list_any (λ k. eqb k job) ys) ≡ true
      by_open true e = refl
      by_open false e = ap (list_any (λ k. eqb k job)) e ∙ any_push (λ k. eqb k job) xs job ∙ ap (λ b. list_any (λ k. eqb k job) xs || b) (eqb_same job) ∙ or_true (list_any (λ k. eqb k job) xs)

  on_still : (xs ys : List ℕ) → ys ≡ (if is_open row.status then xs else (xs ++ job ∷ [])) → (v : ℕ) → (is_open (row_at O v).status || list_any (λ k. eqb k v) xs) ≡ true → (is_open (row_at N v).status || list_any (λ k. eqb k v) ys) ≡ true
  on_still xs ys is v on = elim (cases_eq v job) [
    | inl e ↦ ap (λ i. is_open (row_at N i).status || list_any (λ k. eqb k i) ys) e ∙ ap (λ (r : Row). is_open r.status || list_any (λ k. eqb k job) ys) here ∙ told_here xs ys is
    | inr ne ↦ ap (λ (r : Row). is_open r.status || list_any (λ k. eqb k v) ys) (other v ne) ∙ or_grows (is_open (row_at O v).status) (list_any (λ k. eqb k v) xs) (list_any (λ k. eqb k v) ys) on (told_more xs ys is v)
  ]

  pub set_waits : (xs ys : List ℕ) → ys ≡ (if is_open row.status then xs else (xs ++ job ∷ [])) → (pending : ℕ → Bool) → Waits J O xs (λ j. (eqb j job) || pending j) → Waits J N ys pending
  set_waits xs ys is pending w j waiting not = elim (cases_eq j job) [
    | inl e ↦ subst (IsHeldUp J N ys) (sym e) (held_here (ap (λ (r : Row). is_waiting r.status) (sym here) ∙ ap (λ i. is_waiting (row_at N i).status) (sym e) ∙ waiting))
    | inr ne ↦ held_other ne (w j (ap (λ (r : Row). is_waiting r.status) (sym (other j ne)) ∙ waiting) (ap (λ b. b || pending j) (eqb_not j job ne) ∙ not))
  ]
    where
      held_here : is_waiting row.status ≡ true → IsHeldUp J N ys job
      held_here wait =
          let v = slice_index_or (job_imports_at J job) (row.left - 1) 0 in
          let same : watched J N job ≡ v = ap (λ (r : Row). slice_index_or (job_imports_at J job) (r.left - 1) 0) here in
          let on = becomes.on wait in
          let left : (row_at N job).left ≡ row.left = ap (λ (r : Row). r.left) here in
          let lt : v < length O = open_inside O v on.1 in
          record {
            some = omega (arith, left, on.0);
            within = omega (arith, left, becomes.fewer, good.within job becomes.waited);
            inside = omega (arith, lt, same, count);
            work = waits_work h (job_states_of O) (slice_get J job) row.status row.action becomes.stands (waiting_is row.status wait);
            on = ap (λ i. is_open (row_at N i).status || list_any (λ k. eqb k i) ys) same ∙ on_still xs ys is v (or_left (is_open (row_at O v).status) (list_any (λ k. eqb k v) xs) on.1);
          }

      held_other : (j ≡ job → ⊥) → IsHeldUp J O xs j → IsHeldUp J N ys j
      held_other ne held =
          let same : watched J N j ≡ watched J O j = ap (λ (r : Row). slice_index_or (job_imports_at J j) (r.left - 1) 0) (other j ne) in
          let left : (row_at N j).left ≡ (row_at O j).left = ap (λ (r : Row). r.left) (other j ne) in
          record {
            some = omega (arith, left, held.some);
            within = omega (arith, left, held.within);
            inside = omega (arith, same, count, held.inside);
            work = held.work;
            on = ap (λ i. is_open (row_at N i).status || list_any (λ k. eqb k i) ys) same ∙ on_still xs ys is (watched J O j) held.on;
          }

-- a job that doesn't wait is carried on by nothing
pub still_waits : (J : List Job) (O : List Row) (xs : List ℕ) (job : ℕ) (pending : ℕ → Bool) → is_waiting (row_at O job).status ≡ false → Waits J O xs (λ j. (eqb j job) || pending j) → Waits J O xs pending
still_waits J O xs job pending rests w j waiting not =
    w j waiting (ap (λ b. b || pending j) (eqb_not j job (λ e. (let c : true ≡ false = sym waiting ∙ ap (λ i. is_waiting (row_at O i).status) e ∙ rests in cc))) ∙ not)
