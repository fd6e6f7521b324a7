-- What a job's imports make of it, by the rows that are read.
use Rattle.std.proofs.Common.{◌≡◌, ℕ, suc, ◌+◌, ◌-◌, ◌<◌, ◌≤◌, true, false, ◌||◌, List, [], ◌∷◌, length, get_or, Option, Some, None, refl, sym, ap, ◌∙◌, subst, arith, inl, inr}
use Rattle.std.specs.Prelude.{if◌then◌else◌}
use Rattle.std.specs.List.{slice_get, slice_index_or}
use Rattle.std.proofs.lemmas.Bool.{cases_lt}
use Rattle.std.proofs.lemmas.Option.{get_or_from_slice_get}
use Rattle.go_export.specs.Summaries.{Summary}
use Rattle.ws_action.specs.Actions.{Action, action_id}
use Rattle.ws_board.specs.declared.work.JobStatus.{JobStatus}
use Rattle.ws_board.specs.declared.work.JobStatus.TheVariants.{Waiting, Blocked, Done}
use Rattle.ws_board.specs.declared.table.Row.{Row}
use Rattle.ws_board.specs.Work.{Work, Job, JobStates}
use Rattle.ws_board.specs.Machine.{Holdings, HasStatus, Stop, Act, IsReadiness, IsFormed, MayForm, IsPlaced, is_open, is_waiting, any_open, JobHasSummary}
use Rattle.ws_board.specs.Ends.{job_imports, job_imports_at, work_in, work_at}
use Rattle.ws_board.specs.Rows.{IsOpenPast, RowBecomes, due_of, importer_reads}
use Rattle.ws_board.specs.Table.{row_at, job_states_of}
use Rattle.ws_board.proofs.Standing.{status_row, row_past}
use Rattle.ws_board.proofs.Onward.{waits_stands, import_open}

-- ---- where none of the imports is open

none_open : (ks : List ℕ) (R : List Row) → ((i : ℕ) → i < length ks → is_open (row_at R (get_or ks i 0)).status ≡ false) → any_open (job_states_of R) ks ≡ false
none_open [] R h = refl
none_open (k ∷ ks) R h = ap (λ b. b || any_open (job_states_of R) ks) (ap is_open (status_row R k) ∙ h 0 (omega arith)) ∙ none_open ks R (λ i lt. h (suc i) (omega (arith, lt)))

pub all_past : (J : List Job) (R : List Row) (job left : ℕ) → left ≡ 0 → IsOpenPast J R job left → any_open (job_states_of R) (job_imports_at J job) ≡ false
all_past J R job left none past = none_open (job_imports_at J job) R (λ i lt. past i (omega (arith, none)) lt)

-- ---- how it stands then

pub stands_stopped : (h : Holdings) (now : JobStates) (o : Option Job) (work : Work) → work_in o ≡ Some work → any_open now (job_imports o) ≡ false → ((a : Action) → ¬ (MayForm h now work (job_imports o) a)) → HasStatus h now o Blocked None
stands_stopped h now None work is shut none = absurd (cc)
stands_stopped h now (Some job) work is shut none = (Stop, subst (λ o. IsReadiness h now o job.imports Stop) (sym is) (shut, none), (refl, refl))

pub stands_acts : (h : Holdings) (now : JobStates) (o : Option Job) (work : Work) (a : Action) (status : JobStatus) → work_in o ≡ Some work → IsFormed h now work (job_imports o) a → IsPlaced (h (action_id a)) status → HasStatus h now o status (Some a)
stands_acts h now None work a status is formed placed = absurd (cc)
stands_acts h now (Some job) work a status is formed placed = (Act a, subst (λ o. IsReadiness h now o job.imports (Act a)) (sym is) formed, (placed, refl))

pub stands_waits : (h : Holdings) (J : List Job) (R : List Row) (job left : ℕ) (work : Work) → work_at J job ≡ Some work → 0 < left → left ≤ length (job_imports_at J job)
    → is_open (row_at R (slice_index_or (job_imports_at J job) (left - 1) 0)).status ≡ true → HasStatus h (job_states_of R) (slice_get J job) Waiting None
stands_waits h J R job left work is some within on = waits_stands h (job_states_of R) (slice_get J job) work is (import_open (job_imports_at J job) R (left - 1) (omega (arith, some, within)) on)

-- a job that is placed is open exactly if it is ready
pub placed_cases : (o : Option Action) (s : JobStatus) → IsPlaced o s → (is_waiting s ≡ true → ⊥)
placed_cases None s p w = let c : true ≡ false = sym w ∙ ap is_waiting p in cc
placed_cases (Some e) s p w = let c : true ≡ false = sym w ∙ ap is_waiting p.2 in cc

-- and costs no more than one that is ready
pub placed_costs : (o : Option Action) (s : JobStatus) (left imports importers : ℕ) → IsPlaced o s
    → due_of s left imports importers + (if is_open s then 0 else importer_reads importers) ≤ 2 + importer_reads importers
placed_costs None s left imports importers p =
    subst (λ (x : JobStatus). due_of x left imports importers + (if is_open x then 0 else importer_reads importers) ≤ 2 + importer_reads importers) (sym p) (omega arith)
placed_costs (Some e) s left imports importers p =
    subst (λ (x : JobStatus). due_of x left imports importers + (if is_open x then 0 else importer_reads importers) ≤ 2 + importer_reads importers) (sym p.2) (omega arith)

-- ---- how many of the imports may be open

-- one import fewer may be open
pub past_less : (J : List Job) (R : List Row) (job left k : ℕ) → 0 < left → slice_get (job_imports_at J job) (left - 1) ≡ Some k → is_open (row_at R k).status ≡ false → IsOpenPast J R job left → IsOpenPast J R job (left - 1)
past_less J R job left k some got shut past i le lt = elim (cases_lt i left) [
  | inl below ↦ (
      let e : i ≡ left - 1 = omega (arith, some, le, below) in
      ap (λ n. is_open (row_at R (slice_index_or (job_imports_at J job) n 0)).status) e ∙ ap (λ n. is_open (row_at R n).status) (get_or_from_slice_get (job_imports_at J job) (left - 1) k 0 got) ∙ shut)
  | inr above ↦ past i above lt
]

pub last_open : (J : List Job) (R : List Row) (job n k : ℕ) → slice_get (job_imports_at J job) n ≡ Some k → is_open (row_at R k).status ≡ true → is_open (row_at R (slice_index_or (job_imports_at J job) n 0)).status ≡ true
last_open J R job n k got on = ap (λ i. is_open (row_at R i).status) (get_or_from_slice_get (job_imports_at J job) n k 0 got) ∙ on

-- ---- the row that it gets

module _ (h : Holdings) (J : List Job) (R : List Row) (job : ℕ) (was row : Row) (same : was ≡ row_at R job) (waits : is_waiting was.status ≡ true) (inside : job < length R)
    (s : JobStatus) (a : Option Action) (l : ℕ) (is : row ≡ record was { status = s; action = a; left = l }) where
  pub becomes_of : HasStatus h (job_states_of R) (slice_get J job) s a → l ≤ was.left → IsOpenPast J R job l
      → (is_waiting s ≡ true → (0 < l) × (is_open (row_at R (slice_index_or (job_imports_at J job) (l - 1) 0)).status ≡ true)) → RowBecomes h J R job row
  becomes_of stands fewer past on = subst (RowBecomes h J R job) (sym is) record {
    waited = ap (λ (r : Row). is_waiting r.status) (sym same) ∙ waits;
    inside = inside;
    same = ap (λ (r : Row). record r { status = s; action = a; left = l }) same;
    stands = stands;
    fewer = subst (λ (r : Row). l ≤ r.left) same fewer;
    past = past;
    on = on;
  }

-- ---- what is held for an import

pub undone_has : (h : Holdings) (R : List Row) (k : ℕ) → ((row_at R k).status ≡ Done true → ⊥) → (s : Summary) → ¬ (JobHasSummary h (job_states_of R) k s)
undone_has h R k not s g = not (sym (status_row R k) ∙ g.done)

pub past_has : (h : Holdings) (R : List Row) (k : ℕ) → length R ≤ k → (s : Summary) → ¬ (JobHasSummary h (job_states_of R) k s)
past_has h R k le = undone_has h R k (λ d. (let c : Blocked ≡ Done true = sym (ap (λ (r : Row). r.status) (row_past R k le)) ∙ d in cc))
