-- Which ids the directories that a target reaches have, and which of them are held.
use Rattle.std.specs.Prelude.{◌≡◌, ℕ, List, ◌++◌, map, zip, Option, Some, None, slice_index_or}
use Rattle.std.specs.List.{All, AllZip, Contains}
use Rattle.go_text.specs.declared.edition.Edition.{Edition}
use Rattle.go_typed.specs.Trees.{Package}
use Rattle.ws_version.specs.Writes.{Write}
use Rattle.ws_action.specs.Actions.{Action, action_id}
use Rattle.ws_action.specs.Clash.{NoClash, hashed_actions}
use Rattle.ws_graph.specs.BuildPlan.{Directory}
use Rattle.ws_report.specs.declared.IdStatus.{IdStatus}
use Rattle.ws_report.specs.declared.IdStatus.TheVariants.{NoId, Absent, Held}
use Rattle.ws_replica.specs.Reports.{DirectoryOutcome, Good, outcome_at, action_in, actions_of, TargetBuild, IsTargetBuild}

-- the id status of the row with that number; without an id, if there is no row
abbrev pub id_status_at : List (List ℕ × IdStatus) → ℕ → IdStatus
id_status_at rows k = slice_index_or (map (λ row. row.1) rows) k NoId

-- the directory of that number is good, and its row held
abbrev pub IsHeldGood : TargetBuild → List (List ℕ × IdStatus) → ℕ → Type 0
IsHeldGood build rows k = (typed : Package) × (id : List ℕ) × (outcome_at build.fates k ≡ Good typed) × (id_status_at rows k ≡ Held id)

-- No id where there is no action, or an import isn't held and good; else the action's, and whether it is among those held.
abbrev pub IsIdStatus : List Action → Type 0 → Option Action → IdStatus → Type 0
IsIdStatus held Imports None standing = standing ≡ NoId
IsIdStatus held Imports (Some action) NoId = ¬ Imports
IsIdStatus held Imports (Some action) (Absent id) = Imports × (¬ (Contains held action)) × (id ≡ action_id action)
IsIdStatus held Imports (Some action) (Held id) = Imports × Contains held action × (id ≡ action_id action)

-- the row of a directory and its fate, by the rows of all: no order of directories
abbrev pub IsIdRow : Edition → List Action → TargetBuild → List (List ℕ × IdStatus) → Directory × DirectoryOutcome → List ℕ × IdStatus → Type 0
IsIdRow edition held build rows (d, fate) (path, standing) =
    (path ≡ d.path) × IsIdStatus held (All (IsHeldGood build rows) d.imports) (action_in edition build.fates d fate) standing

-- the directories of a target, each with how its action stands among those held
abbrev pub AreIdRows : Edition → List Action → TargetBuild → List (List ℕ × IdStatus) → Type 0
AreIdRows edition held build rows = AllZip (IsIdRow edition held build rows) (zip build.directories build.fates) rows

-- What is known of the ids of a target: what becomes of its directories, and, where no two hashed texts clash, that these are their rows.
pub record AreIds (edition : Edition) (W : List Write) (E : List Action) (target : List ℕ) (rows : List (List ℕ × IdStatus)) : Type 0 where
  pub build : TargetBuild
  pub are : IsTargetBuild edition W target (Some build)
  pub right : NoClash (hashed_actions (E ++ actions_of edition build)) → AreIdRows edition E build rows
