-- Rows of jobs, and where the jobs stand by them.
use Rattle.std.proofs.Common.{◌≡◌, ℕ, zero, suc, ◌+◌, ◌<◌, ◌≤◌, true, false, cond, List, [], ◌∷◌, length, get_or, count_by, refl, sym, ap, ◌∙◌, arith, inl, inr, get_or-set_other, get_or-set_same}
use Rattle.std.proofs.Math.ListN.{set, get_or-map}
use Rattle.std.proofs.lemmas.List.{map-set, length-map}
use Rattle.std.proofs.lemmas.List.Sums.{sum_by-set, sum_by-cons, get_or-le-sum_by, count_by-le-length}
use Rattle.std.proofs.lemmas.Bool.{cases_lt}
use Rattle.ws_board.specs.declared.work.JobStatus.{JobStatus}
use Rattle.ws_board.specs.declared.work.JobStatus.TheVariants.{Waiting, Ready, Running, Blocked, Done}
use Rattle.ws_board.specs.declared.table.Row.{Row}
use Rattle.ws_board.specs.Work.{JobStates}
use Rattle.ws_board.specs.Machine.{is_waiting, is_open, is_running, status_at, action_at}
use Rattle.ws_board.specs.Rows.{due, owed}
use Rattle.ws_board.specs.Table.{blank, row_at, job_states_of}

pub status_row : (rows : List Row) (k : ℕ) → status_at (job_states_of rows).statuses k ≡ (row_at rows k).status
status_row rows k = get_or-map (λ (r : Row). r.status) rows k blank

pub action_row : (rows : List Row) (k : ℕ) → action_at (job_states_of rows).actions k ≡ (row_at rows k).action
action_row rows k = get_or-map (λ (r : Row). r.action) rows k blank

pub length_statuses : (rows : List Row) → length (job_states_of rows).statuses ≡ length rows
length_statuses rows = length-map rows (λ (r : Row). r.status)

pub length_actions : (rows : List Row) → length (job_states_of rows).actions ≡ length rows
length_actions rows = length-map rows (λ (r : Row). r.action)

pub statuses_set : (rows : List Row) (k : ℕ) (row : Row) → (job_states_of (set rows k row)).statuses ≡ set (job_states_of rows).statuses k row.status
statuses_set rows k row = map-set (λ (r : Row). r.status) rows k row

pub actions_set : (rows : List Row) (k : ℕ) (row : Row) → (job_states_of (set rows k row)).actions ≡ set (job_states_of rows).actions k row.action
actions_set rows k row = map-set (λ (r : Row). r.action) rows k row

pub standings_parts : (a b : JobStates) → a.statuses ≡ b.statuses → a.actions ≡ b.actions → a ≡ b
standings_parts a b s t = λ i. record { statuses = s i; actions = t i }

pub row_same : (rows : List Row) (k : ℕ) (row : Row) → k < length rows → row_at (set rows k row) k ≡ row
row_same rows k row inside = get_or-set_same rows k row blank inside

pub row_other : (rows : List Row) (k j : ℕ) (row : Row) → (j ≡ k → ⊥) → row_at (set rows k row) j ≡ row_at rows j
row_other rows k j row ne = get_or-set_other rows k j row blank ne

pub row_past : (rows : List Row) (k : ℕ) → length rows ≤ k → row_at rows k ≡ blank
row_past [] k le = refl
row_past (x ∷ xs) zero le = absurd (omega arith)
row_past (x ∷ xs) (suc k) le = row_past xs k (omega (arith, le))

-- a job that is open stands in a row
pub open_inside : (rows : List Row) (k : ℕ) → is_open (row_at rows k).status ≡ true → k < length rows
open_inside rows k o = elim (cases_lt k (length rows)) [
  | inl lt ↦ lt
  | inr le ↦ (let c : false ≡ true = ap (λ (r : Row). is_open r.status) (sym (row_past rows k le)) ∙ o in absurd (cc))
]

pub waiting_open : (s : JobStatus) → is_waiting s ≡ true → is_open s ≡ true
waiting_open Waiting w = refl
waiting_open Ready w = absurd (cc)
waiting_open (Running hand) w = absurd (cc)
waiting_open Blocked w = absurd (cc)
waiting_open (Done good) w = absurd (cc)

-- ---- sums

pub due_at : (rows : List Row) (k : ℕ) → due (row_at rows k) ≤ owed rows
due_at rows k = elim (cases_lt k (length rows)) [
  | inl lt ↦ get_or-le-sum_by due rows k blank lt
  | inr le ↦ (let e : due (row_at rows k) ≡ 0 = ap due (row_past rows k le) in omega (arith, e))
]

pub owed_set : (rows : List Row) (k : ℕ) (row : Row) → k < length rows → owed (set rows k row) + due (row_at rows k) ≡ owed rows + due row
owed_set rows k row inside = sum_by-set due rows k row blank inside

pub runs_set : (rows : List Row) (k : ℕ) (row : Row) → k < length rows
    → count_by is_running (job_states_of (set rows k row)).statuses + cond (is_running (row_at rows k).status) 1 0 ≡ count_by is_running (job_states_of rows).statuses + cond (is_running row.status) 1 0
runs_set rows k row inside =
    let lt : k < length (job_states_of rows).statuses = omega (arith, inside, length_statuses rows) in
    let e = sum_by-set (λ s. cond (is_running s) 1 0) (job_states_of rows).statuses k row.status Blocked lt in
    let a : ◌≡◌ {A = ℕ} (cond (is_running (get_or (job_states_of rows).statuses k Blocked)) 1 0) (cond (is_running (row_at rows k).status) 1 0) = ap (λ s. cond (is_running s) 1 0) (status_row rows k) in
    let b : count_by is_running (job_states_of (set rows k row)).statuses ≡ count_by is_running (set (job_states_of rows).statuses k row.status) = ap (count_by is_running) (statuses_set rows k row) in
    omega (arith, e, a, b)

pub opens_set : (rows : List Row) (k : ℕ) (row : Row) → k < length rows
    → count_by is_open (job_states_of (set rows k row)).statuses + cond (is_open (row_at rows k).status) 1 0 ≡ count_by is_open (job_states_of rows).statuses + cond (is_open row.status) 1 0
opens_set rows k row inside =
    let lt : k < length (job_states_of rows).statuses = omega (arith, inside, length_statuses rows) in
    let e = sum_by-set (λ s. cond (is_open s) 1 0) (job_states_of rows).statuses k row.status Blocked lt in
    let a : ◌≡◌ {A = ℕ} (cond (is_open (get_or (job_states_of rows).statuses k Blocked)) 1 0) (cond (is_open (row_at rows k).status) 1 0) = ap (λ s. cond (is_open s) 1 0) (status_row rows k) in
    let b : count_by is_open (job_states_of (set rows k row)).statuses ≡ count_by is_open (set (job_states_of rows).statuses k row.status) = ap (count_by is_open) (statuses_set rows k row) in
    omega (arith, e, a, b)

-- how many are open, once one job stands otherwise
pub opens_stood : (rows : List Row) (k : ℕ) (status : JobStatus) → k < length rows
    → count_by is_open (set (job_states_of rows).statuses k status) + cond (is_open (row_at rows k).status) 1 0 ≡ count_by is_open (job_states_of rows).statuses + cond (is_open status) 1 0
opens_stood rows k status inside =
    let lt : k < length (job_states_of rows).statuses = omega (arith, inside, length_statuses rows) in
    let e = sum_by-set (λ s. cond (is_open s) 1 0) (job_states_of rows).statuses k status Blocked lt in
    let a : ◌≡◌ {A = ℕ} (cond (is_open (get_or (job_states_of rows).statuses k Blocked)) 1 0) (cond (is_open (row_at rows k).status) 1 0) = ap (λ s. cond (is_open s) 1 0) (status_row rows k) in
    omega (arith, e, a)

-- one that is open counts
pub opens_some : (rows : List Row) (k : ℕ) → k < length rows → is_open (row_at rows k).status ≡ true → 0 < count_by is_open (job_states_of rows).statuses
opens_some rows k inside hit =
    let e = opens_stood rows k Blocked inside in
    let a : ◌≡◌ {A = ℕ} (cond (is_open (row_at rows k).status) 1 0) 1 = ap (λ b. cond b 1 0) hit in
    omega (arith, e, a)

pub opens_few : (rows : List Row) → count_by is_open (job_states_of rows).statuses ≤ length rows
opens_few rows = omega (arith, count_by-le-length is_open (job_states_of rows).statuses, length_statuses rows)

-- a row is written whose job stands so
pub opens_written : (rows view : List Row) (k : ℕ) (row : Row) (status : JobStatus) (count : ℕ) → rows ≡ view → row.status ≡ status
    → count ≡ count_by is_open (set (job_states_of view).statuses k status) → count ≡ count_by is_open (job_states_of (set rows k row)).statuses
opens_written rows view k row status count same is counted =
    counted ∙ ap (λ (l : List Row). count_by is_open (set (job_states_of l).statuses k status)) (sym same)
    ∙ sym (ap (count_by is_open) (statuses_set rows k row ∙ ap (λ s. set (job_states_of rows).statuses k s) is))

pub opens_of : (rows : List Row) → count_by is_open (job_states_of rows).statuses ≡ count_by (λ (r : Row). is_open r.status) rows
opens_of [] = refl
opens_of (row ∷ rows) = sum_by-cons (λ s. cond (is_open s) 1 0) row.status (job_states_of rows).statuses ∙ ap (λ n. cond (is_open row.status) 1 0 + n) (opens_of rows) ∙ sym (sum_by-cons (λ (r : Row). cond (is_open r.status) 1 0) row rows)
