-- On the way to where nothing changes.
use Rattle.std.specs.Prelude.{◌≡◌, ℕ, true, false, List, length, Option, Some, None, ◌⊎◌, if◌then◌else◌, option_copied}
use Rattle.std.specs.List.{slice_get}
use Rattle.std.specs.Option.{option_or}
use Rattle.std.specs.Str.{bytes_eq}
use Rattle.std.specs.FinMap.{get}
use Rattle.ws_action.specs.Actions.{Action, action_id}
use Rattle.ws_board.specs.declared.propagation.Holds.{Holds}
use Rattle.ws_board.specs.declared.work.JobStatus.TheVariants.{Waiting}
use Rattle.ws_board.specs.Work.{Job, JobStates, Entries}
use Rattle.ws_board.specs.Machine.{Holdings, is_waiting, status_at, action_at, HasStatus}

-- what waited at first still waits, or stands as its imports say; and what waits has no action
pub record IsUnder (jobs : List Job) (held : Holdings) (first now : JobStates) : Type 0 where
  pub same_length : (length now.statuses ≡ length first.statuses) × (length now.actions ≡ length first.actions)
  pub others : (j : ℕ) → is_waiting (status_at first.statuses j) ≡ false
      → (status_at now.statuses j ≡ status_at first.statuses j) × (action_at now.actions j ≡ action_at first.actions j)
  pub waiting : (j : ℕ) → is_waiting (status_at first.statuses j) ≡ true
      → (status_at now.statuses j ≡ Waiting) ⊎ HasStatus held now (slice_get jobs j) (status_at now.statuses j) (action_at now.actions j)
  pub bare : (j : ℕ) → status_at now.statuses j ≡ Waiting → action_at now.actions j ≡ None

-- what is held for an id while an entry is about to be added
abbrev pub newest_at : Option Action → Holdings
newest_at None id = None
newest_at (Some entry) id = if bytes_eq (action_id entry) id then Some entry else None

abbrev pub held_with : Entries → Entries → Option Action → Holdings
held_with cache added newest id = option_or (get cache id) (option_or (get added id) (newest_at newest id))

abbrev pub held_by : Holds → Holdings
held_by holds = held_with holds.opened.now holds.added.now (option_copied holds.newest)
