-- The steps from a plan to what is said of its directories.
use Rattle.std.specs.Prelude.{Vec, ◌≡◌, ℕ, suc, ◌+◌, List, [], ◌∷◌, ◌++◌, length, map, Option, Some, None, string_bytes}
use Rattle.std.specs.List.{All, count_by}
use Rattle.std.specs.Arc.{arc_value}
use Rattle.std.specs.FinMap.{FinMap}
use Rattle.std.specs.Global.{Global}
use Rattle.go_text.specs.declared.edition.Edition.{Edition}
use Rattle.go_text.specs.Faults.{Fault}
use Rattle.ws_action.specs.Actions.{Action}
use Rattle.ws_cache.specs.Compiles.{Compiled, Compiles}
use Rattle.ws_cache.specs.Compiles as compiled
use Rattle.ws_cache.specs.Held.{id_cmp}
use Rattle.ws_board.specs.Work.{Work, Job, Seen}
use Rattle.ws_board.specs.Machine.{is_finish}
use Rattle.ws_board.specs.Calls.{result_at}
use Rattle.ws_board.specs.Ends.{HasResults}
use Rattle.ws_graph.specs.Plan.{Planned, NoFiles, Faulty, Sound}
use Rattle.ws_graph.specs.BuildPlan.{Directory}
use Rattle.ws_report.specs.declared.Report.{Report}
use Rattle.ws_report.specs.Reports.{DirectoryVerdict, Good, Blocked, Wrong, verdict_rows}
use Rattle.ws_replica.specs.declared.reached.Place.{Place as RustPlace}
use Rattle.ws_replica.specs.declared.reached.Reached.{Reached as RustReached}
use Rattle.ws_replica.specs.declared.reached.Shared.{Shared}
use Rattle.ws_replica.specs.declared.reached.SharedNode.{SharedNode}
use Rattle.ws_replica.specs.declared.reached.SharedNode.TheVariants as nodes

-- the directory of a plan, of what the code keeps
abbrev pub node_of : SharedNode → Planned
node_of (nodes.Faulty fault) = Faulty fault
node_of (nodes.Sound files) = Sound (arc_value files)

abbrev pub shared_of : Shared → Directory
shared_of d = record { path = string_bytes d.path; planned = node_of d.node; imports = d.imports.items }

-- a directory, with the fault of its plan, if it has one
pub record Place : Type 0 where
  pub path : List ℕ
  pub fault : Option Fault

-- the same with what is to be compiled of it, if its plan has no fault, and the numbers of its imports
pub record ReachedDirectory : Type 0 where
  pub place : Place
  pub work : Option Work
  pub imports : List ℕ

-- of what the code keeps
abbrev pub place_seen : RustPlace → Place
place_seen p = record { path = string_bytes p.path; fault = p.fault }

abbrev pub reached_of : RustReached → ReachedDirectory
reached_of r = record { place = place_seen r.place; work = r.work; imports = r.imports.items }

abbrev pub planned_fault : Planned → Option Fault
planned_fault NoFiles = None
planned_fault (Faulty fault) = Some fault
planned_fault (Sound files) = None

abbrev pub work_of : Edition → List ℕ → Planned → Option Work
work_of edition path NoFiles = None
work_of edition path (Faulty fault) = None
work_of edition path (Sound files) = Some (record { edition = edition; path = path; files = files })

abbrev pub reached_by : Edition → Directory → ReachedDirectory
reached_by edition d = record { place = record { path = d.path; fault = planned_fault d.planned }; work = work_of edition d.path d.planned; imports = d.imports }

-- the fault in what compiling gives, if there is one
abbrev pub fault_in : Compiled → Option Fault
fault_in (compiled.Good summary object) = None
fault_in (compiled.Faulty fault) = Some fault

abbrev pub verdict_of : Option Fault → DirectoryVerdict
verdict_of None = Good
verdict_of (Some fault) = Wrong fault

-- the verdict on a directory without a fault of its plan, by its job's result
abbrev pub IsVerdictOfAction : Option Action → DirectoryVerdict → Type 0
IsVerdictOfAction None verdict = verdict ≡ Blocked
IsVerdictOfAction (Some entry) verdict = (result : Compiled) × Compiles entry result × (verdict ≡ verdict_of (fault_in result))

abbrev pub IsVerdictOfJob : Option Fault → Option Action → DirectoryVerdict → Type 0
IsVerdictOfJob (Some fault) result verdict = verdict ≡ Wrong fault
IsVerdictOfJob None result verdict = IsVerdictOfAction result verdict

-- the verdicts on directories, from the number k on, by the results of their jobs
abbrev pub AreVerdicts : (ℕ → Option Action) → ℕ → List Place → List (List ℕ × DirectoryVerdict) → Type 0
AreVerdicts result k [] [] = Unit {0}
AreVerdicts result k [] (row ∷ rows) = ⊥
AreVerdicts result k (place ∷ places) [] = ⊥
AreVerdicts result k (place ∷ places) (row ∷ rows) = (row.0 ≡ place.path) × IsVerdictOfJob place.fault (result k) row.1 × AreVerdicts result (suc k) places rows

-- ---- several plans, one after another

-- the job of what was reached, where so many jobs come before those of its plan
abbrev pub job_after : ℕ → ReachedDirectory → Job
job_after n r = record { work = r.work; imports = map (λ k. n + k) r.imports }

-- the jobs of plans, where so many come before
abbrev pub jobs_after : ℕ → List (List ReachedDirectory) → List Job
jobs_after n [] = []
jobs_after n (reached ∷ rest) = map (job_after n) reached ++ jobs_after (n + length reached) rest

-- the verdicts on each plan's directories, from the number n on
abbrev pub AllAreVerdicts : (ℕ → Option Action) → ℕ → List (List Place) → List (List (List ℕ × DirectoryVerdict)) → Type 0
AllAreVerdicts result n [] [] = Unit {0}
AllAreVerdicts result n [] (rows ∷ others) = ⊥
AllAreVerdicts result n (places ∷ rest) [] = ⊥
AllAreVerdicts result n (places ∷ rest) (rows ∷ others) = AreVerdicts result n places rows × AllAreVerdicts result (n + length places) rest others

-- of what the code keeps
abbrev pub all_reached_of : List (Vec RustReached Global) → List (List ReachedDirectory)
all_reached_of all = map (λ v. map reached_of v.items) all

abbrev pub all_places_of : List (Vec RustPlace Global) → List (List Place)
all_places_of all = map (λ v. map place_seen v.items) all

abbrev pub report_rows : Report → List (List ℕ × DirectoryVerdict)
report_rows report = verdict_rows report.directories.items

-- what a board came to over a cache with the jobs of what was reached of several plans, and what was said of each plan
pub record IsRun (cache : FinMap id_cmp Action) (all : List (List ReachedDirectory)) (reports : List Report) (added : FinMap id_cmp Action) : Type 0 where
  pub board : Seen
  pub opening : board.opening ≡ record { jobs = jobs_after 0 all; cache = cache }
  pub ends : HasResults board []
  pub told : AllAreVerdicts (result_at board) 0 (map (λ reached. map (λ r. r.place) reached) all) (map report_rows reports)
  pub counts : All (λ r. r.compiled ≡ count_by is_finish board.history) reports
  pub added_are : added ≡ board.state.added
