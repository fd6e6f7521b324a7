-- What the calls of a board promise.
use Rattle.std.specs.Prelude.{◌≡◌, ℕ, true, List, [], ◌∷◌, ◌++◌, ◌≤◌, Option, Some, None}
use Rattle.std.specs.List.{count_by, list_any}
use Rattle.ws_action.specs.Actions.{Action, action_id}
use Rattle.ws_board.specs.declared.work.JobStatus.{JobStatus}
use Rattle.ws_board.specs.declared.work.JobStatus.TheVariants.{Waiting, Ready, Running, Blocked, Done}
use Rattle.ws_board.specs.declared.work.Event.{Event}
use Rattle.ws_board.specs.declared.work.Event.TheVariants.{Take, Idle}
use Rattle.ws_board.specs.declared.work.Taken.{Taken}
use Rattle.ws_board.specs.declared.work.Taken.TheVariants as taken
use Rattle.ws_board.specs.Work.{Task, JobStates, Seen}
use Rattle.ws_board.specs.Machine.{Holdings, is_running, is_back_of, status_at, action_at, held, NoneFree, IsFree, IsRunBy, BoardStep, IsFirst}

-- Jobs were carried on from the opening, and nothing happened yet.
pub record IsFresh (seen : Seen) : Type 0 where
  pub first : IsFirst seen.opening seen.state
  pub nothing_runs : count_by is_running seen.state.standings.statuses ≡ 0
  pub nothing_happened : seen.history ≡ []

-- the event was a step of the machine and was added to the history, and the opening stays
pub record Happens (old : Seen) (event : Event) (new : Seen) : Type 0 where
  pub step : BoardStep old.opening old.state event new.state
  pub history : new.history ≡ old.history ++ event ∷ []
  pub opening : new.opening ≡ old.opening

-- some job runs
abbrev pub SomeRuns : List JobStatus → Type 0
SomeRuns statuses = (k : ℕ) × (is_running (status_at statuses k) ≡ true)

-- A job was given to the worker, which then runs it and is told whether it was given back before.
pub record GivesTask (hand : ℕ) (task : Task) (old new : Seen) : Type 0 where
  pub runs : IsRunBy new.state.standings hand task.job task.action
  pub happens : Happens old (Take hand task.job) new
  pub was_back : task.was_back ≡ list_any (is_back_of task.job) old.history

-- What a take answers: a job; idle; or later, which is no event, where no job may be given but some job runs.
abbrev pub TakeStep : ℕ → Taken → Seen → Seen → Type 0
TakeStep hand (taken.Job task) old new = GivesTask hand task old new
TakeStep hand taken.Idle old new = Happens old (Idle hand) new
TakeStep hand taken.Later old new = NoneFree old.state.standings × SomeRuns old.state.standings.statuses × (new ≡ old)

-- the entry that is held for a job that is done
abbrev pub result_of : Holdings → JobStatus → Option Action → Option Action
result_of at (Done good) (Some action) = at (action_id action)
result_of at (Done good) None = None
result_of at Waiting action = None
result_of at Ready action = None
result_of at (Running hand) action = None
result_of at Blocked action = None

abbrev pub result_at : Seen → ℕ → Option Action
result_at seen k = result_of (held seen.opening seen.state) (status_at seen.state.standings.statuses k) (action_at seen.state.standings.actions k)

-- of the jobs that may be given, the first was
abbrev pub IsLeastFree : JobStates → Taken → Type 0
IsLeastFree old (taken.Job task) = (k : ℕ) (action : Action) → IsFree old k action → task.job ≤ k
IsLeastFree old taken.Idle = Unit {0}
IsLeastFree old taken.Later = Unit {0}
