-- Workers of a shared board, and what the board keeps under its lock.
use Rattle.std.specs.Prelude.{◌≡◌, ℕ, zero, suc, List, [], ◌∷◌, ◌++◌, Option, Some, None, refl}
use Rattle.std.specs.List.{sum_by}
use Rattle.std.specs.Coded.{Coded, code_by, coded×, coded_ℕ, coded_option}
use Rattle.go_export.specs.Summaries.{Summary}
use Rattle.ws_action.specs.Actions.{Action}
use Rattle.ws_board.specs.declared.work.Event.{Event}
use Rattle.ws_board.specs.declared.work.Event.TheVariants.{Take, Idle}
use Rattle.ws_board.specs.declared.work.Taken.{Taken}
use Rattle.ws_board.specs.declared.work.Taken.TheVariants as taken
use Rattle.ws_board.specs.Work.{Work, Job, acted, Task, Opening, Seen}
use Rattle.ws_board.specs.Machine.{action_at}
use Rattle.ws_board.specs.Ends.{work_at, AddsOwn, MayBeResult}
use Rattle.ws_shared.specs.Counts.{Counts, none_made, count_event, counts_of, counts_code}

-- a worker: its number, the number of the job that it runs, if it runs one, and how many events of each kind it made
pub record WorkerState : Type 0 where
  pub number : ℕ
  pub runs : Option ℕ
  pub made : Counts

-- the worker after an event of its own, which now runs that job or none
abbrev pub after_event : WorkerState → Option ℕ → Event → WorkerState
after_event hand runs event = record { number = hand.number; runs = runs; made = count_event hand.made event }

-- that many workers, which run nothing and made nothing, numbered from 1
abbrev pub new_workers : ℕ → List WorkerState
new_workers zero = []
new_workers (suc n) = new_workers n ++ record { number = suc n; runs = None; made = none_made } ∷ []

-- what all of them made
abbrev pub made_by : List WorkerState → Counts
made_by hands = record {
  takes = sum_by (λ hand. hand.made.takes) hands;
  finishes = sum_by (λ hand. hand.made.finishes) hands;
  backs = sum_by (λ hand. hand.made.backs) hands;
  idles = sum_by (λ hand. hand.made.idles) hands;
}

-- the action is made of this work, with summaries of its imports
pub record IsActionOf (work : Option Work) (action : Action) : Type 0 where
  pub its : Work
  pub is_its : work ≡ Some its
  pub summaries : List Summary
  pub is : action ≡ acted its summaries

-- so is each that is formed, of its job's work
abbrev pub AreActionsOf : List Job → List (Option Action) → Type 0
AreActionsOf jobs actions = (job : ℕ) (action : Action) → action_at actions job ≡ Some action → IsActionOf (work_at jobs job) action

-- the action of a task that was given may be a result
abbrev pub IsOwn : Opening → Taken → Type 0
IsOwn opening (taken.Job task) = MayBeResult opening task.action
IsOwn opening taken.Idle = Unit {0}
IsOwn opening taken.Later = Unit {0}

-- A worker was given a task of one of the opening's jobs, which it now runs, and whose action may be a result; or was told that nothing is left to do.
abbrev pub TaskGiven : Opening → Option Task → WorkerState → WorkerState → Type 0
TaskGiven opening (Some task) old new =
    IsActionOf (work_at opening.jobs task.job) task.action × MayBeResult opening task.action × (new ≡ after_event old (Some task.job) (Take old.number task.job))
TaskGiven opening None old new = new ≡ after_event old None (Idle old.number)

-- the same, or that it has to wait
abbrev pub TaskGivenOrLater : Opening → Taken → WorkerState → WorkerState → Type 0
TaskGivenOrLater opening (taken.Job task) old new = TaskGiven opening (Some task) old new
TaskGivenOrLater opening taken.Idle old new = TaskGiven opening None old new
TaskGivenOrLater opening taken.Later old new = new ≡ old

-- the number of the job that was given
abbrev pub job_of : Taken → Option ℕ
job_of (taken.Job task) = Some task.job
job_of taken.Idle = None
job_of taken.Later = None

-- what was made, with the event of what a take answered
abbrev pub with_taken : ℕ → Taken → Counts → Counts
with_taken hand (taken.Job task) made = count_event made (Take hand task.job)
with_taken hand taken.Idle made = count_event made (Idle hand)
with_taken hand taken.Later made = made

-- what holds of the board and its books whenever the lock is free
pub record BoardInvariant (opening : Opening) (books : Counts) (seen : Seen) : Type 0 where
  pub opened : seen.opening ≡ opening
  pub counts : books ≡ counts_of seen.history
  pub formed : AreActionsOf opening.jobs seen.state.standings.actions
  pub own : AddsOwn seen

abbrev pub worker_code : Coded WorkerState
worker_code = code_by (ℕ × (Option ℕ × Counts)) (coded× coded_ℕ (coded× (coded_option coded_ℕ) counts_code)) (λ h. (h.number, (h.runs, h.made)))
    (λ p. record { number = p.0; runs = p.1.0; made = p.1.1 }) (λ _. refl)
