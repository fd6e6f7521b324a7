-- The board as a machine: how jobs stand, which events may come, and what each makes of it.
use Rattle.std.specs.Prelude.{◌≡◌, ℕ, Bool, true, false, ◌==◌, ◌&&◌, ◌||◌, if◌then◌else◌, List, [], ◌∷◌, length, map, Option, Some, None, slice_set}
use Rattle.std.specs.List.{All, AllZip, slice_get, slice_index_or, list_any}
use Rattle.std.specs.Option.{option_or}
use Rattle.std.specs.Str.{bytes_eq}
use Rattle.std.specs.FinMap.{get, empty}
use Rattle.ws_map.specs.Kept.{taken}
use Rattle.go_export.specs.Summaries.{Summary}
use Rattle.go_export.specs.Writable.{IsWritten}
use Rattle.go_code.specs.Packages.{Object}
use Rattle.ws_action.specs.Actions.{Action, action_id, MakeAction, IsSized}
use Rattle.ws_cache.specs.Compiles.{Compiled, Compiles, Good, Faulty}
use Rattle.ws_cache.specs.Joined.{lesser}
use Rattle.ws_board.specs.declared.work.JobStatus.{JobStatus}
use Rattle.ws_board.specs.declared.work.JobStatus.TheVariants.{Waiting, Ready, Running, Blocked, Done}
use Rattle.ws_board.specs.declared.work.Event.{Event}
use Rattle.ws_board.specs.declared.work.Event.TheVariants.{Take, Finish, Back, Idle}
use Rattle.ws_board.specs.Work.{Work, Job, JobStates, Opening, BoardState, acted}

-- ---- how a job stands

abbrev pub is_waiting : JobStatus → Bool
is_waiting Waiting = true
is_waiting Ready = false
is_waiting (Running hand) = false
is_waiting Blocked = false
is_waiting (Done good) = false

abbrev pub is_ready : JobStatus → Bool
is_ready Waiting = false
is_ready Ready = true
is_ready (Running hand) = false
is_ready Blocked = false
is_ready (Done good) = false

abbrev pub is_running : JobStatus → Bool
is_running Waiting = false
is_running Ready = false
is_running (Running hand) = true
is_running Blocked = false
is_running (Done good) = false

-- ready, or run
abbrev pub is_active : JobStatus → Bool
is_active Waiting = false
is_active Ready = true
is_active (Running hand) = true
is_active Blocked = false
is_active (Done good) = false

-- neither done nor blocked
abbrev pub is_open : JobStatus → Bool
is_open status = is_waiting status || is_active status

-- where there is no job, one that is blocked
abbrev pub status_at : List JobStatus → ℕ → JobStatus
status_at statuses k = slice_index_or statuses k Blocked

-- the action of the job with that number, if it is formed
abbrev pub action_at : List (Option Action) → ℕ → Option Action
action_at actions k = slice_index_or actions k None

abbrev pub has_action_id : List ℕ → Option Action → Bool
has_action_id id None = false
has_action_id id (Some action) = bytes_eq (action_id action) id

abbrev pub has_id : List (Option Action) → List ℕ → ℕ → Bool
has_id actions id k = has_action_id id (action_at actions k)

-- ---- what imports make of a job

-- what is held for an id
abbrev pub Holdings : Type 0
Holdings = List ℕ → Option Action

-- the job is done, and what is held for its action is a good package with this summary
pub record JobHasSummary (held : Holdings) (now : JobStates) (job : ℕ) (summary : Summary) : Type 0 where
  pub done : status_at now.statuses job ≡ Done true
  pub action : Action
  pub its : action_at now.actions job ≡ Some action
  pub entry : Action
  pub is_held : held (action_id action) ≡ Some entry
  pub object : Object
  pub compiled : Compiles entry (Good summary object)

-- the imports are done and good, and their summaries make this action with the work
pub record MayForm (held : Holdings) (now : JobStates) (work : Work) (imports : List ℕ) (action : Action) : Type 0 where
  pub summaries : List Summary
  pub have : AllZip (JobHasSummary held now) imports summaries
  pub make : MakeAction work.edition work.files summaries
  pub is : action ≡ acted work summaries

-- this action is formed: its text tells the summaries, and the numbers in it fit
pub record IsFormed (held : Holdings) (now : JobStates) (work : Work) (imports : List ℕ) (action : Action) : Type 0 where
  pub may : MayForm held now work imports action
  pub written : All IsWritten may.summaries
  pub sized : IsSized action

pub data Readiness : Type 0 where
  Wait : Readiness
  Stop : Readiness
  Act : Action → Readiness

abbrev pub any_open : JobStates → List ℕ → Bool
any_open now imports = list_any (λ k. is_open (status_at now.statuses k)) imports

-- Without work a job stops. Else it waits while an import is open; then it may go on with the action that is formed, and stops where none may be.
abbrev pub IsReadiness : Holdings → JobStates → Option Work → List ℕ → Readiness → Type 0
IsReadiness held now None imports verdict = verdict ≡ Stop
IsReadiness held now (Some work) imports Wait = any_open now imports ≡ true
IsReadiness held now (Some work) imports Stop = (any_open now imports ≡ false) × ((action : Action) → ¬ (MayForm held now work imports action))
IsReadiness held now (Some work) imports (Act action) = IsFormed held now work imports action

abbrev pub is_good_result : Compiled → Bool
is_good_result (Good summary object) = true
is_good_result (Faulty fault) = false

-- whether compiling the action gives a good package
abbrev pub IsGoodness : Action → Bool → Type 0
IsGoodness action good = (result : Compiled) × Compiles action result × (good ≡ is_good_result result)

-- a job that may be compiled is ready; one whose id is held is done at once
abbrev pub IsPlaced : Option Action → JobStatus → Type 0
IsPlaced None status = status ≡ Ready
IsPlaced (Some entry) status = (good : Bool) × IsGoodness entry good × (status ≡ Done good)

-- it has an action where it may go on
abbrev pub Follows : Holdings → Readiness → JobStatus → Option Action → Type 0
Follows held Wait status action = (status ≡ Waiting) × (action ≡ None)
Follows held Stop status action = (status ≡ Blocked) × (action ≡ None)
Follows held (Act its) status action = IsPlaced (held (action_id its)) status × (action ≡ Some its)

-- the job has the status that its imports give it, by what is held, and has that action
abbrev pub HasStatus : Holdings → JobStates → Option Job → JobStatus → Option Action → Type 0
HasStatus held now None status action = (status ≡ Blocked) × (action ≡ None)
HasStatus held now (Some job) status action = (verdict : Readiness) × IsReadiness held now job.work job.imports verdict × Follows held verdict status action

-- Results are propagated to waiting jobs until nothing changes: each that waited has the status that its imports then give it.
pub record Propagated (jobs : List Job) (held : Holdings) (old new : JobStates) : Type 0 where
  pub same_length : (length new.statuses ≡ length old.statuses) × (length new.actions ≡ length old.actions)
  pub others : (j : ℕ) → is_waiting (status_at old.statuses j) ≡ false
      → (status_at new.statuses j ≡ status_at old.statuses j) × (action_at new.actions j ≡ action_at old.actions j)
  pub waiting : (j : ℕ) → is_waiting (status_at old.statuses j) ≡ true
      → HasStatus held new (slice_get jobs j) (status_at new.statuses j) (action_at new.actions j)

-- ---- events

-- the opening's cache is asked first
abbrev pub held : Opening → BoardState → Holdings
held opening state id = option_or (get opening.cache id) (get state.added id)

-- a worker runs the id, by that job
abbrev pub is_run_of : JobStates → List ℕ → ℕ → Bool
is_run_of now id k = is_running (status_at now.statuses k) && has_id now.actions id k

-- the job may be given: it is ready, and no worker runs its id
pub record IsFree (now : JobStates) (job : ℕ) (action : Action) : Type 0 where
  pub ready : status_at now.statuses job ≡ Ready
  pub its : action_at now.actions job ≡ Some action
  pub apart : (k : ℕ) → is_run_of now (action_id action) k ≡ false

-- if the job is ready, a worker runs its id
abbrev pub IsTaken : JobStates → ℕ → Type 0
IsTaken now job =
    (action : Action) → status_at now.statuses job ≡ Ready → action_at now.actions job ≡ Some action → (k : ℕ) × (is_run_of now (action_id action) k ≡ true)

-- no job may be given
abbrev pub NoneFree : JobStates → Type 0
NoneFree now = (job : ℕ) → IsTaken now job

-- nothing is ready, and nothing runs
abbrev pub IsIdle : List JobStatus → Type 0
IsIdle statuses = (k : ℕ) → is_active (status_at statuses k) ≡ false

-- the worker runs the job
pub record IsRunBy (now : JobStates) (hand job : ℕ) (action : Action) : Type 0 where
  pub runs : status_at now.statuses job ≡ Running hand
  pub its : action_at now.actions job ≡ Some action

-- the worker runs the job, whose action has the id
pub record IsRunWith (now : JobStates) (hand job : ℕ) (id : List ℕ) : Type 0 where
  pub action : Action
  pub run : IsRunBy now hand job action
  pub its : action_id action ≡ id

-- that job now stands so
abbrev pub stood : JobStates → ℕ → JobStatus → JobStates
stood old job status = record { statuses = slice_set old.statuses job status; actions = old.actions }

-- what becomes of a job when an id is done: one that is ready or runs is done, if it has that id
abbrev pub mark : List (Option Action) → List ℕ → Bool → ℕ → JobStatus → JobStatus
mark actions id good k status = if is_active status && has_id actions id k then Done good else status

pub record IsMarked (id : List ℕ) (good : Bool) (old new : JobStates) : Type 0 where
  pub same_length : length new.statuses ≡ length old.statuses
  pub each : (k : ℕ) → status_at new.statuses k ≡ mark old.actions id good k (status_at old.statuses k)
  pub actions : new.actions ≡ old.actions

-- The worker runs the job. The entry joins those that were added, the jobs with its id are done, and this is propagated to waiting jobs.
pub record Finishes (opening : Opening) (old : BoardState) (hand job : ℕ) (action entry : Action) (new : BoardState) : Type 0 where
  pub good : Bool
  pub marked : JobStates
  pub run : IsRunBy old.standings hand job action
  pub fits : action_id entry ≡ action_id action
  pub goodness : IsGoodness entry good
  pub joins : new.added ≡ taken lesser old.added (action_id entry) entry
  pub marks : IsMarked (action_id action) good old.standings marked
  pub carried : Propagated opening.jobs (held opening new) marked new.standings

-- as before, but that one job stands otherwise
abbrev pub with_stood : BoardState → ℕ → JobStatus → BoardState
with_stood old job status = record { standings = stood old.standings job status; added = old.added }

-- From old the event may come, and the board goes on to new.
abbrev pub BoardStep : Opening → BoardState → Event → BoardState → Type 0
BoardStep opening old (Take hand job) new = (action : Action) × IsFree old.standings job action × (new ≡ with_stood old job (Running hand))
BoardStep opening old (Finish hand job) new = (action : Action) × (entry : Action) × Finishes opening old hand job action entry new
BoardStep opening old (Back hand job) new = (action : Action) × IsRunBy old.standings hand job action × (new ≡ with_stood old job Ready)
BoardStep opening old (Idle hand) new = IsIdle old.standings.statuses × (new ≡ old)

-- The events may come one after another from old, and new is the state after them.
abbrev pub Replays : Opening → BoardState → List Event → BoardState → Type 0
Replays opening old [] new = new ≡ old
Replays opening old (event ∷ events) new = (mid : BoardState) × BoardStep opening old event mid × Replays opening mid events new

-- before anything is carried on, all jobs wait, and no action is formed
abbrev pub unopened : List Job → JobStates
unopened jobs = record { statuses = map (λ job. Waiting) jobs; actions = map (λ job. None) jobs }

-- At first nothing was added, and all jobs, which wait, are carried on.
pub record IsFirst (opening : Opening) (first : BoardState) : Type 0 where
  pub added : first.added ≡ empty
  pub carried : Propagated opening.jobs (held opening first) (unopened opening.jobs) first.standings

-- The history is legal from the opening, and leads to now.
pub record IsHistory (opening : Opening) (history : List Event) (now : BoardState) : Type 0 where
  pub first : BoardState
  pub begins : IsFirst opening first
  pub replays : Replays opening first history now

-- ---- kinds of events

abbrev pub is_finish : Event → Bool
is_finish (Take hand job) = false
is_finish (Finish hand job) = true
is_finish (Back hand job) = false
is_finish (Idle hand) = false

abbrev pub is_idle : Event → Bool
is_idle (Take hand job) = false
is_idle (Finish hand job) = false
is_idle (Back hand job) = false
is_idle (Idle hand) = true

-- a back of that job
abbrev pub is_back_of : ℕ → Event → Bool
is_back_of job (Take hand k) = false
is_back_of job (Finish hand k) = false
is_back_of job (Back hand k) = k == job
is_back_of job (Idle hand) = false
