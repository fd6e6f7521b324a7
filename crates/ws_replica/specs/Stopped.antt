-- A board of what was reached of a directory, that is opened over a cache and never run.
use Rattle.std.specs.Prelude.{◌≡◌, ◌⊎◌, ◌<◌, ℕ, suc, List, [], ◌∷◌, map, length, Option, None, Some}
use Rattle.std.specs.FinMap.{FinMap}
use Rattle.std.specs.List.{slice_get}
use Rattle.go_text.specs.Faults.{Fault}
use Rattle.go_code.specs.Images.{Image}
use Rattle.go_code.specs.Packages.{Object}
use Rattle.go_link.specs.declared.link.LinkError.{LinkError}
use Rattle.go_link.specs.Links.{Links, objects_in_order, link_refusal}
use Rattle.go_export.specs.Summaries.{Summary}
use Rattle.ws_action.specs.Actions.{Action, action_id}
use Rattle.ws_cache.specs.Compiles.{Compiles, Good, Faulty}
use Rattle.ws_cache.specs.Held.{id_cmp}
use Rattle.ws_board.specs.Work.{Seen, BoardState}
use Rattle.ws_board.specs.declared.work.JobStatus.{JobStatus}
use Rattle.ws_board.specs.declared.work.JobStatus.TheVariants.{Ready, Done}
use Rattle.ws_board.specs.Machine.{status_at, action_at}
use Rattle.ws_board.specs.Calls.{result_at}
use Rattle.ws_board.specs.Ends.{ShowsEnds}
use Rattle.ws_report.specs.declared.IdStatus.{IdStatus}
use Rattle.ws_report.specs.declared.IdStatus.TheVariants.{NoId, Absent, Held}
use Rattle.ws_replica.specs.Jobs.{ReachedDirectory, Place, job_after}

-- the board of these jobs, on which nothing happened yet
pub record IsOpened (reached : List ReachedDirectory) (cache : FinMap id_cmp Action) (seen : Seen) : Type 0 where
  pub opening : seen.opening ≡ record { jobs = map (job_after 0) reached; cache = cache }
  pub shows : ShowsEnds seen

-- the id status of a job with this status
abbrev pub id_status_by : JobStatus → Option Action → IdStatus
id_status_by Ready (Some action) = Absent (action_id action)
id_status_by (Done good) (Some action) = Held (action_id action)
id_status_by _ _ = NoId

abbrev pub id_status_in : BoardState → ℕ → IdStatus
id_status_in state k = id_status_by (status_at state.standings.statuses k) (action_at state.standings.actions k)

-- the rows of these places, from the number k on
abbrev pub rows_from : BoardState → ℕ → List Place → List (List ℕ × IdStatus)
rows_from state k [] = []
rows_from state k (place ∷ places) = (place.path, id_status_in state k) ∷ rows_from state (suc k) places

-- the job is done and good, and this is its object
pub record IsObjectAt (seen : Seen) (k : ℕ) (object : Object) : Type 0 where
  pub entry : Action
  pub summary : Summary
  pub has : result_at seen k ≡ Some entry
  pub compiles : Compiles entry (Good summary object)

-- the job isn't done, or is faulty
abbrev pub LacksObjectAt : Seen → ℕ → Type 0
LacksObjectAt seen k = (result_at seen k ≡ None) ⊎ ((entry : Action) × (fault : Fault) × (result_at seen k ≡ Some entry) × Compiles entry (Faulty fault))

-- the objects of so many jobs
pub record AreObjects (seen : Seen) (count : ℕ) (objects : List Object) : Type 0 where
  pub size : length objects ≡ count
  pub each : (k : ℕ) (object : Object) → slice_get objects k ≡ Some object → IsObjectAt seen k object

-- one of so many lacks its object
abbrev pub SomeLacks : Seen → ℕ → Type 0
SomeLacks seen count = (k : ℕ) × (k < count) × LacksObjectAt seen k

-- the image of the objects in that order, and none where they aren't linked
abbrev pub IsLinkedTo : List Object → List ℕ → Option Image → Type 0
IsLinkedTo objects order None = (refusal : LinkError) × (link_refusal (objects_in_order objects order) ≡ Some refusal)
IsLinkedTo objects order (Some image) = Links objects order image
