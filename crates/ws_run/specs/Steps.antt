-- The steps from files to an answer.
use Rattle.std.specs.Prelude.{Vec, ◌≡◌, ℕ, Bool, List, [], ◌∷◌, ◌++◌, Option, Some, None}
use Rattle.std.specs.List.{All, list_all}
use Rattle.std.specs.Global.{Global}
use Rattle.go_text.specs.declared.edition.Edition.{Edition}
use Rattle.go_code.specs.Images.{Image}
use Rattle.go_typed.specs.Trees.{Package}
use Rattle.go_translation_laws.specs.Programs.{IsLinked}
use Rattle.go_vm.specs.Outcomes.{ProgramOutcome}
use Rattle.ws_register.specs.Sources.{HasFiles}
use Rattle.ws_action.specs.Clash.{NoClash, AllSized, hashed_actions}
use Rattle.ws_report.specs.Reports.{is_good}
use Rattle.ws_report.specs.declared.Report.{Report}
use Rattle.ws_replica.specs.Builds.{AreBuilt, LacksPackage}
use Rattle.ws_replica.specs.Holdings.{Replica, ReplicaStandsFor, Took}
use Rattle.ws_replica.specs.Programs.{IsGood, IsPackageOrder}
use Rattle.ws_replica.specs.Reports.{TargetBuild, actions_of}
use Rattle.ws_run.specs.declared.answer.RunReport.{RunReport}
use Rattle.ws_run.specs.declared.answer.RunReport.TheVariants.{NoPackage}
use Rattle.ws_run.specs.Files.{Files, writes_of, IsBuildOf, IsClearOf, RunsAs, HasNoPackageFiles, IsNoProgram, AnswerSays}

abbrev pub all_good : Report → Bool
all_good report = list_all (λ d. is_good d.1) report.directories.items

abbrev pub IsLast : List Report → Report → Type 0
IsLast reports report = (rest : List Report) × (reports ≡ rest ++ report ∷ [])

-- what the replica took that wrote the files, and compiled nothing yet
abbrev pub took_of : Files → List Took
took_of files = record { writes = writes_of files; actions = [] } ∷ []

-- the directory, as the replica's that stands alone
abbrev pub target_at : List ℕ → List (ℕ × List ℕ)
target_at directory = (0, directory) ∷ []

-- the reports of a build, and the replicas behind it; or the directory has no package files
abbrev pub IsBuilt : Edition → Files → List ℕ → Option (Vec Report Global) → List Replica → Type 0
IsBuilt edition files directory None new = LacksPackage edition (took_of files) (target_at directory)
IsBuilt edition files directory (Some reports) new = AreBuilt edition (took_of files) (target_at directory) reports.items new

-- the replica wrote the files and holds what is compiled of a directory and of all that it reaches, which is good
pub record HoldsProgram (edition : Edition) (files : Files) (directory : List ℕ) (replica : Replica) : Type 0 where
  pub build : TargetBuild
  pub are : IsBuildOf edition files directory build
  pub good : All IsGood build.fates
  pub clear : NoClash (hashed_actions (actions_of edition build))
  pub sized : AllSized (actions_of edition build)
  pub stands : ReplicaStandsFor replica (writes_of files) (actions_of edition build)

-- the image is linked of the packages of the program that the files are
pub record IsProgramImage (edition : Edition) (files : Files) (directory : List ℕ) (image : Image) : Type 0 where
  pub build : TargetBuild
  pub are : IsBuildOf edition files directory build
  pub sources : HasFiles (writes_of files)
  pub good : All IsGood build.fates
  pub packages : List Package
  pub in_order : IsPackageOrder build packages
  pub linked : IsLinked packages image

-- or they are none
abbrev pub HasImage : Edition → Files → List ℕ → Option Image → Type 0
HasImage edition files directory None = IsNoProgram edition files directory
HasImage edition files directory (Some image) = IsProgramImage edition files directory image

-- how an image of them ends; nothing, if there is none
abbrev pub ImageEndsAs : Edition → Files → List ℕ → ℕ → Option ProgramOutcome → Type 0
ImageEndsAs edition files directory ticks None = IsNoProgram edition files directory
ImageEndsAs edition files directory ticks (Some o) = RunsAs edition files directory ticks o

-- what a report says holds if no two hashed texts clash; that there are no package files, also if some do
abbrev pub IsReportOfRun : Edition → Files → List ℕ → ℕ → RunReport → Type 0
IsReportOfRun edition files directory ticks NoPackage = HasNoPackageFiles edition files directory
IsReportOfRun edition files directory ticks answer = IsClearOf edition files directory → AnswerSays edition files directory ticks answer
