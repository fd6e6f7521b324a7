-- What the index of a board says of its rows.
use Rattle.std.specs.Prelude.{◌≡◌, ℕ, ◌==◌, ◌&&◌, ◌↔◌, if◌then◌else◌, Bool, true, false, List, [], ◌∷◌, ◌++◌, length, is_none, Option, None, Some}
use Rattle.std.specs.List.{list_any, slice_index_or, count_by}
use Rattle.std.specs.Str.{bytes_eq}
use Rattle.std.specs.Map.{lookup}
use Rattle.std.specs.BTreeMap.{is_at}
use Rattle.ws_map.specs.Keyed.{bytes_cmp}
use Rattle.ws_action.specs.Actions.{Action, action_id}
use Rattle.ws_board.specs.declared.work.JobStatus.TheVariants.{Running}
use Rattle.ws_board.specs.declared.table.Row.{Row}
use Rattle.ws_board.specs.declared.index.Id.{Id}
use Rattle.ws_board.specs.declared.index.Run.{Run}
use Rattle.ws_board.specs.declared.index.Ready.{Ready as AReady}
use Rattle.ws_board.specs.declared.index.Index.{Index}
use Rattle.ws_board.specs.Machine.{is_ready, is_running, has_action_id}
use Rattle.ws_board.specs.Rows.{times, is_active_of}
use Rattle.ws_board.specs.Table.{row_at, job_states_of}

-- what is kept of an id
abbrev pub id_in : List (List ℕ × Id) → List ℕ → Option Id
id_in entries id = lookup (is_at (bytes_cmp id)) entries

abbrev pub jobs_of : Option Id → List ℕ
jobs_of None = []
jobs_of (Some id) = id.jobs.items

abbrev pub run_of : Option Id → Option Run
run_of None = None
run_of (Some id) = id.run

-- the worker runs the job
abbrev pub run_with : ℕ → ℕ → Run
run_with hand job = record { hand = hand; job = job }

-- the jobs that are kept of an id
abbrev pub jobs_by : List (List ℕ × Id) → List ℕ → List ℕ
jobs_by entries id = jobs_of (id_in entries id)

-- which of them runs
abbrev pub run_by : List (List ℕ × Id) → List ℕ → Option Run
run_by entries id = run_of (id_in entries id)

abbrev pub jobs_in : Index → List ℕ → List ℕ
jobs_in index id = jobs_by index.ids.entries id

abbrev pub run_in : Index → List ℕ → Option Run
run_in index id = run_by index.ids.entries id

abbrev pub is_free_in : Index → ℕ → Bool
is_free_in index k = slice_index_or index.free k false

-- only the one id is kept otherwise
pub record ChangesIndex (old new : Index) (id its : List ℕ) (run : Option Run) : Type 0 where
  pub jobs : (other : List ℕ) → jobs_in new other ≡ (if bytes_eq id other then its else jobs_in old other)
  pub runs : (other : List ℕ) → run_in new other ≡ (if bytes_eq id other then run else run_in old other)

-- the id has the same jobs, and that one of them runs, or none
abbrev pub SetsRun : Index → Index → List ℕ → Option Run → Type 0
SetsRun old new id run = ChangesIndex old new id (jobs_in old id) run

-- the job stands behind those of the id, and of no other id anything changed
abbrev pub JoinsIn : (List ℕ → List ℕ) → (List ℕ → List ℕ) → List ℕ → ℕ → Type 0
JoinsIn old new id job = (other : List ℕ) → new other ≡ (if bytes_eq id other then (old id ++ job ∷ []) else old other)

-- the job alone stands with the id, and of no other id anything changed
abbrev pub BeginsIn : (List ℕ → List ℕ) → (List ℕ → List ℕ) → List ℕ → ℕ → Type 0
BeginsIn old new id job = (other : List ℕ) → new other ≡ (if bytes_eq id other then job ∷ [] else old other)

-- the jobs of the id may be given now, or may not
abbrev pub MarksFree : Index → Index → List ℕ → Bool → Type 0
MarksFree old new id may = (k : ℕ) → is_free_in new k ≡ (if list_any (λ j. j == k) (jobs_in old id) then may else is_free_in old k)

-- nothing but the ids' jobs changed
pub record IsSameBut (old new : Index) : Type 0 where
  pub runs : (id : List ℕ) → run_in new id ≡ run_in old id
  pub free : new.free ≡ old.free
  pub running : new.running ≡ old.running

-- whether the job is among those with an id that became ready, and no worker runs the id
abbrev pub is_released : Index → List AReady → ℕ → Bool
is_released index ready k = list_any (λ one. (one.job == k) && is_none (run_in index one.id)) ready

-- ---- agreement

-- whether no worker runs the id of an action that is formed
abbrev pub is_unrun : (List ℕ → Option Run) → Option Action → Bool
is_unrun run None = false
is_unrun run (Some action) = is_none (run (action_id action))

-- the worker runs the job, whose action has the id
abbrev pub IsRunAt : List Row → List ℕ → ℕ → ℕ → Type 0
IsRunAt rows id hand job = ((row_at rows job).status ≡ Running hand) × (has_action_id id (row_at rows job).action ≡ true)

-- It is said once which jobs have an id and are ready or run, which of them runs, which jobs may be given, and how many run.
pub record AgreesBy (rows : List Row) (listed : List ℕ → List ℕ) (run : List ℕ → Option Run) (may : ℕ → Bool) (flags ran : ℕ) : Type 0 where
  pub jobs : (id : List ℕ) (k : ℕ) → times k (listed id) ≡ (if is_active_of rows id k then 1 else 0)
  pub runs : (id : List ℕ) (hand job : ℕ) → (run id ≡ Some (run_with hand job)) ↔ IsRunAt rows id hand job
  pub count : flags ≡ length rows
  pub free : (k : ℕ) → may k ≡ (is_ready (row_at rows k).status && is_unrun run (row_at rows k).action)
  pub running : ran ≡ count_by is_running (job_states_of rows).statuses

abbrev pub Agrees : List Row → Index → Type 0
Agrees rows index = AgreesBy rows (jobs_in index) (run_in index) (is_free_in index) (length index.free) index.running
