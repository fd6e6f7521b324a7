-- The jobs of a board, where they stand, and all that a board keeps.
use Rattle.std.specs.Prelude.{◌≡◌, ℕ, Bool, List, Option, Some, None, ◌⊎◌, refl}
use Rattle.std.specs.Coded.{Coded, code_by, coded×, coded⊎, coded_ℕ, coded_bool, coded_list, coded_option}
use Rattle.std.specs.FinMap.{FinMap, code}
use mathlib.Core.Logic.{inl, inr}
use Rattle.go_text.specs.contracts.edition.Edition as editions
use Rattle.go_text.specs.declared.edition.Edition.{Edition}
use Rattle.go_ast.specs.Parse.{Parsed}
use Rattle.go_export.specs.Summaries.{Summary}
use Rattle.ws_action.specs.Actions.{Action, action_of, action_code}
use Rattle.ws_cache.specs.Held.{id_cmp}
use Rattle.ws_board.specs.declared.work.JobStatus.{JobStatus}
use Rattle.ws_board.specs.declared.work.JobStatus.TheVariants.{Waiting, Ready, Running, Blocked, Done}
use Rattle.ws_board.specs.declared.work.Event.{Event}
use Rattle.ws_board.specs.declared.work.Event.TheVariants.{Take, Finish, Back, Idle}

-- what is to be compiled: the edition, the package's directory and its files
pub record Work : Type 0 where
  pub edition : Edition
  pub path : List ℕ
  pub files : List Parsed

-- what is to be compiled, if anything is, and the numbers of the jobs that it imports, in the order of their paths
pub record Job : Type 0 where
  pub work : Option Work
  pub imports : List ℕ

-- the action of work, where its imports have these summaries
abbrev pub acted : Work → List Summary → Action
acted work summaries = action_of work.edition work.path work.files summaries

-- a job that was given: its number, its action, and whether it was given back before
pub record Task : Type 0 where
  pub job : ℕ
  pub action : Action
  pub was_back : Bool

-- entries by their ids
abbrev pub Entries : Type 0
Entries = FinMap id_cmp Action

-- what a board is opened with
pub record Opening : Type 0 where
  pub jobs : List Job
  pub cache : Entries

-- the status of each job, and its action, once it is formed
pub record JobStates : Type 0 where
  pub statuses : List JobStatus
  pub actions : List (Option Action)

-- the same, and the entries that were added to those of the opening
pub record BoardState : Type 0 where
  pub standings : JobStates
  pub added : Entries

-- the opening, how things are now, what happened, the first event first, and how often rows were read
pub record Seen : Type 0 where
  pub opening : Opening
  pub state : BoardState
  pub history : List Event
  pub looks : ℕ

-- ---- by what proofs tell these apart

abbrev pub StatusSum : Type 0
StatusSum = Option (Option ℕ) ⊎ Option Bool

abbrev pub status_out : JobStatus → StatusSum
status_out Waiting = inl None
status_out Ready = inl (Some None)
status_out (Running hand) = inl (Some (Some hand))
status_out Blocked = inr None
status_out (Done good) = inr (Some good)

abbrev pub status_in : StatusSum → JobStatus
status_in (inl None) = Waiting
status_in (inl (Some None)) = Ready
status_in (inl (Some (Some hand))) = Running hand
status_in (inr None) = Blocked
status_in (inr (Some good)) = Done good

pub status_same : (s : JobStatus) → status_in (status_out s) ≡ s
status_same Waiting = refl
status_same Ready = refl
status_same (Running hand) = refl
status_same Blocked = refl
status_same (Done good) = refl

abbrev pub EventSum : Type 0
EventSum = (ℕ × ℕ) ⊎ ((ℕ × ℕ) ⊎ ((ℕ × ℕ) ⊎ ℕ))

abbrev pub event_out : Event → EventSum
event_out (Take hand job) = inl (hand, job)
event_out (Finish hand job) = inr (inl (hand, job))
event_out (Back hand job) = inr (inr (inl (hand, job)))
event_out (Idle hand) = inr (inr (inr hand))

abbrev pub event_in : EventSum → Event
event_in (inl p) = Take p.0 p.1
event_in (inr (inl p)) = Finish p.0 p.1
event_in (inr (inr (inl p))) = Back p.0 p.1
event_in (inr (inr (inr hand))) = Idle hand

pub event_same : (e : Event) → event_in (event_out e) ≡ e
event_same (Take hand job) = refl
event_same (Finish hand job) = refl
event_same (Back hand job) = refl
event_same (Idle hand) = refl

abbrev pub status_code : Coded JobStatus
status_code = code_by StatusSum (coded⊎ (coded_option (coded_option coded_ℕ)) (coded_option coded_bool)) status_out status_in status_same

abbrev pub event_code : Coded Event
event_code = code_by EventSum (coded⊎ (coded× coded_ℕ coded_ℕ) (coded⊎ (coded× coded_ℕ coded_ℕ) (coded⊎ (coded× coded_ℕ coded_ℕ) coded_ℕ)))
    event_out event_in event_same

abbrev pub parsed_code : Coded Parsed
parsed_code = code_by (List ℕ × (List ℕ × Edition)) (coded× (coded_list coded_ℕ) (coded× (coded_list coded_ℕ) editions.the_row.coded))
    (λ f. (f.name, (f.text, f.edition))) (λ p. record { name = p.0; text = p.1.0; edition = p.1.1 }) (λ _. refl)

abbrev pub work_code : Coded Work
work_code = code_by (Edition × (List ℕ × List Parsed)) (coded× editions.the_row.coded (coded× (coded_list coded_ℕ) (coded_list parsed_code)))
    (λ w. (w.edition, (w.path, w.files))) (λ p. record { edition = p.0; path = p.1.0; files = p.1.1 }) (λ _. refl)

abbrev pub job_code : Coded Job
job_code = code_by (Option Work × List ℕ) (coded× (coded_option work_code) (coded_list coded_ℕ))
    (λ j. (j.work, j.imports)) (λ p. record { work = p.0; imports = p.1 }) (λ _. refl)

abbrev pub job_states_code : Coded JobStates
job_states_code = code_by (List JobStatus × List (Option Action)) (coded× (coded_list status_code) (coded_list (coded_option action_code)))
    (λ s. (s.statuses, s.actions)) (λ p. record { statuses = p.0; actions = p.1 }) (λ _. refl)

abbrev pub task_code : Coded Task
task_code = code_by (ℕ × (Action × Bool)) (coded× coded_ℕ (coded× action_code coded_bool))
    (λ t. (t.job, (t.action, t.was_back))) (λ p. record { job = p.0; action = p.1.0; was_back = p.1.1 }) (λ _. refl)

abbrev pub entries_code : Coded Entries
entries_code = code (coded_list coded_ℕ) action_code

abbrev pub state_code : Coded BoardState
state_code = code_by (JobStates × Entries) (coded× job_states_code entries_code)
    (λ s. (s.standings, s.added)) (λ p. record { standings = p.0; added = p.1 }) (λ _. refl)

abbrev pub SeenProduct : Type 0
SeenProduct = (List Job × Entries) × (BoardState × (List Event × ℕ))

abbrev pub seen_in : SeenProduct → Seen
seen_in p = record { opening = record { jobs = p.0.0; cache = p.0.1 }; state = p.1.0; history = p.1.1.0; looks = p.1.1.1 }

abbrev pub seen_code : Coded Seen
seen_code = code_by SeenProduct (coded× (coded× (coded_list job_code) entries_code) (coded× state_code (coded× (coded_list event_code) coded_ℕ)))
    (λ s. ((s.opening.jobs, s.opening.cache), (s.state, (s.history, s.looks)))) seen_in (λ _. refl)
