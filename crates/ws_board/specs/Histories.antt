-- What a legal history promises of each job and of each id.
use Rattle.std.specs.Prelude.{◌≡◌, ℕ, Bool, true, false, List, ◌∷◌, ◌++◌, Option}
use Rattle.std.specs.List.{list_any}
use Rattle.ws_action.specs.Actions.{Action}
use Rattle.ws_board.specs.declared.work.Event.{Event}
use Rattle.ws_board.specs.declared.work.Event.TheVariants.{Take, Finish, Back, Idle}
use Rattle.ws_board.specs.Work.{JobStates, Seen}
use Rattle.ws_board.specs.Machine.{is_open, is_run_of, status_at, has_id}
use Rattle.ws_board.specs.Ends.{IsRanked}

-- Where imports lead down, each job is done or blocked.
pub record AreSettled (seen : Seen) : Type 0 where
  pub each : (rank : ℕ → ℕ) → IsRanked rank seen.opening.jobs → (k : ℕ) → is_open (status_at seen.state.standings.statuses k) ≡ false

-- At most one job with an id runs.
pub record RunsAlone (now : JobStates) : Type 0 where
  pub one : (id : List ℕ) (j k : ℕ) → is_run_of now id j ≡ true → is_run_of now id k ≡ true → j ≡ k

-- a job whose action has the id is given back
abbrev pub is_back_with : List (Option Action) → List ℕ → Event → Bool
is_back_with actions id (Take hand k) = false
is_back_with actions id (Finish hand k) = false
is_back_with actions id (Back hand k) = has_id actions id k
is_back_with actions id (Idle hand) = false

-- Where two takes give jobs whose actions have one id, a job whose action has it was given back between.
pub record IsTakenOnce (seen : Seen) : Type 0 where
  pub backs : (id : List ℕ) (before between after : List Event) (hand other j k : ℕ)
      → seen.history ≡ before ++ (Take hand j ∷ (between ++ (Take other k ∷ after)))
      → has_id seen.state.standings.actions id j ≡ true → has_id seen.state.standings.actions id k ≡ true
      → list_any (is_back_with seen.state.standings.actions id) between ≡ true
