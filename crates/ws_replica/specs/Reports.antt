-- What a build says of each directory that it reaches: from the sources alone.
use Rattle.std.specs.Prelude.{◌≡◌, ℕ, List, [], ◌∷◌, map, Option, Some, None, slice_index_or}
use Rattle.std.specs.List.{AllZip, filter_map, flat_map, zip}
use Rattle.go_text.specs.declared.edition.Edition.{Edition}
use Rattle.go_text.specs.Faults.{Fault}
use Rattle.go_ast.specs.Parse.{Parsed}
use Rattle.go_typed.specs.Trees.{Package}
use Rattle.go_check.specs.Names.{importable_of}
use Rattle.go_export.specs.Summaries.{summary_of}
use Rattle.ws_action.specs.Actions.{Action, action_of}
use Rattle.ws_cache.specs.Compiles.{AreGood, AreFaulty}
use Rattle.ws_graph.specs.Plan.{Planned, NoFiles, Sound, Faulty, IsPlanOf}
use Rattle.ws_graph.specs.BuildPlan.{Directory, IsBuildPlanOf}
use Rattle.ws_report.specs.Reports as told
use Rattle.ws_version.specs.Writes.{Write}

-- what becomes of a directory: the fault of its plan stops it, an import that isn't good blocks it, its files have a fault, or they are a typed package
pub data DirectoryOutcome : Type 0 where
  Stopped : Fault → DirectoryOutcome
  Blocked : DirectoryOutcome
  Wrong : Fault → DirectoryOutcome
  Good : Package → DirectoryOutcome

-- the outcome of the directory at a number; blocked, if there is none
abbrev pub outcome_at : List DirectoryOutcome → ℕ → DirectoryOutcome
outcome_at fates k = slice_index_or fates k Blocked

-- the directories of these numbers are good, and these are their packages
abbrev pub ArePackages : List DirectoryOutcome → List ℕ → List Package → Type 0
ArePackages fates = AllZip (λ k p. outcome_at fates k ≡ Good p)

-- the files of a sound directory, and the packages that it imports, where all are good
pub record IsReady (fates : List DirectoryOutcome) (d : Directory) (files : List Parsed) (imports : List Package) : Type 0 where
  pub sound : d.planned ≡ Sound files
  pub good : ArePackages fates d.imports imports

-- the outcome of a directory, by the outcomes of all: no ids, no cache, no summaries, no order of jobs
abbrev pub IsDirectoryOutcome : List DirectoryOutcome → Directory → DirectoryOutcome → Type 0
IsDirectoryOutcome fates d (Stopped fault) = d.planned ≡ Faulty fault
IsDirectoryOutcome fates d Blocked = (files : List Parsed) × (d.planned ≡ Sound files) × ((imports : List Package) → ¬ (ArePackages fates d.imports imports))
IsDirectoryOutcome fates d (Wrong fault) =
    (files : List Parsed) × (imports : List Package) × IsReady fates d files imports × AreFaulty d.path files (map importable_of imports) fault
IsDirectoryOutcome fates d (Good typed) =
    (files : List Parsed) × (imports : List Package) × IsReady fates d files imports × AreGood d.path files (map importable_of imports) typed

abbrev pub AreDirectoryOutcomes : List Directory → List DirectoryOutcome → Type 0
AreDirectoryOutcomes directories fates = AllZip (IsDirectoryOutcome fates) directories fates

abbrev pub verdict_of_outcome : DirectoryOutcome → told.DirectoryVerdict
verdict_of_outcome (Stopped fault) = told.Wrong fault
verdict_of_outcome Blocked = told.Blocked
verdict_of_outcome (Wrong fault) = told.Wrong fault
verdict_of_outcome (Good typed) = told.Good

-- a target's directories, and what becomes of them
pub record TargetBuild : Type 0 where
  pub directories : List Directory
  pub fates : List DirectoryOutcome

-- those of a directory, from a set of writes alone; none where it has no package files
abbrev pub IsTargetBuild : Edition → List Write → List ℕ → Option TargetBuild → Type 0
IsTargetBuild edition writes target None = IsPlanOf edition writes target NoFiles
IsTargetBuild edition writes target (Some build) = IsBuildPlanOf edition writes target build.directories × AreDirectoryOutcomes build.directories build.fates

-- the directories that are reached, in order, each with its verdict
abbrev pub report_of : TargetBuild → List (List ℕ × told.DirectoryVerdict)
report_of build = map (λ row. (row.0.path, verdict_of_outcome row.1)) (zip build.directories build.fates)

-- ---- actions: what is hashed

abbrev pub packages_in : List DirectoryOutcome → List Package
packages_in [] = []
packages_in (Good p ∷ fates) = p ∷ packages_in fates
packages_in (_ ∷ fates) = packages_in fates

-- the packages that a directory imports, those that are good
abbrev pub imported : List DirectoryOutcome → Directory → List Package
imported fates d = packages_in (map (outcome_at fates) d.imports)

abbrev pub action_by : Edition → List DirectoryOutcome → Directory → Planned → Option Action
action_by edition fates d (Sound files) = Some (action_of edition d.path files (map summary_of (imported fates d)))
action_by edition fates d planned = None

-- the action that a directory is compiled by, which has one where its imports are good
abbrev pub action_in : Edition → List DirectoryOutcome → Directory → DirectoryOutcome → Option Action
action_in edition fates d (Wrong fault) = action_by edition fates d d.planned
action_in edition fates d (Good typed) = action_by edition fates d d.planned
action_in edition fates d fate = None

-- the actions that are compiled of a target
abbrev pub actions_of : Edition → TargetBuild → List Action
actions_of edition build = filter_map (λ row. action_in edition build.fates row.0 row.1) (zip build.directories build.fates)

abbrev pub actions_in : Edition → Option TargetBuild → List Action
actions_in edition None = []
actions_in edition (Some build) = actions_of edition build

-- the actions that are compiled of several
abbrev pub all_actions : Edition → List TargetBuild → List Action
all_actions edition builds = flat_map (actions_of edition) builds
