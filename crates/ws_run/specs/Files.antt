-- What the files of a program mean, as one replica writes them.
use Rattle.std.specs.Prelude.{◌≡◌, ℕ, List, map, Some, None}
use Rattle.std.specs.List.{All}
use Rattle.go_text.specs.declared.edition.Edition.{Edition}
use Rattle.go_typed.specs.Trees.{Package}
use Rattle.go_meaning.specs.Programs.{IsProgram, SourceMeaning}
use Rattle.go_vm.specs.Outcomes.{ProgramOutcome}
use Rattle.ws_version.specs.Writes.{Write}
use Rattle.ws_action.specs.Clash.{NoClash, hashed_actions}
use Rattle.ws_report.specs.Reports.{verdict_rows}
use Rattle.ws_report.specs.declared.Report.{Report}
use Rattle.ws_replica.specs.Reports.{TargetBuild, IsTargetBuild, report_of, actions_of}
use Rattle.ws_replica.specs.Programs.{IsGood, IsPackageOrder}
use Rattle.ws_run.specs.declared.answer.RunReport.{RunReport}
use Rattle.ws_run.specs.declared.answer.RunReport.TheVariants.{Ran, Faulty, NoPackage, NoMain}

-- files by path and text
abbrev pub Files : Type 0
Files = List (List ℕ × List ℕ)

-- the first edit of a replica 1
abbrev pub write_of : List ℕ × List ℕ → Write
write_of f = (f.0, record { counter = 1; number = 1; text = Some f.1 })

abbrev pub writes_of : Files → List Write
writes_of files = map write_of files

-- what becomes of a directory and of all that it reaches
abbrev pub IsBuildOf : Edition → Files → List ℕ → TargetBuild → Type 0
IsBuildOf edition files directory build = IsTargetBuild edition (writes_of files) directory (Some build)

-- no two texts clash that are hashed of them
abbrev pub IsClearOf : Edition → Files → List ℕ → Type 0
IsClearOf edition files directory = (build : TargetBuild) → IsBuildOf edition files directory build → NoClash (hashed_actions (actions_of edition build))

-- all directories are good, and their packages, in the order in which they are initialized, are a program that ends and prints so
pub record RunsAs (edition : Edition) (files : Files) (directory : List ℕ) (ticks : ℕ) (o : ProgramOutcome) : Type 0 where
  pub build : TargetBuild
  pub are : IsBuildOf edition files directory build
  pub good : All IsGood build.fates
  pub packages : List Package
  pub in_order : IsPackageOrder build packages
  pub meaning : SourceMeaning packages ticks o.ending o.output

-- not all directories are good, and this is said of all
pub record HasFaults (edition : Edition) (files : Files) (directory : List ℕ) (report : Report) : Type 0 where
  pub build : TargetBuild
  pub are : IsBuildOf edition files directory build
  pub faulty : ¬ (All IsGood build.fates)
  pub told : verdict_rows report.directories.items ≡ report_of build

-- no file of the directory belongs to a package
abbrev pub HasNoPackageFiles : Edition → Files → List ℕ → Type 0
HasNoPackageFiles edition files directory = IsTargetBuild edition (writes_of files) directory None

-- all directories are good, and their packages are no program
pub record IsNoProgram (edition : Edition) (files : Files) (directory : List ℕ) : Type 0 where
  pub build : TargetBuild
  pub are : IsBuildOf edition files directory build
  pub good : All IsGood build.fates
  pub none : (packages : List Package) → IsPackageOrder build packages → ¬ (IsProgram packages)

-- what each report says of the files
abbrev pub AnswerSays : Edition → Files → List ℕ → ℕ → RunReport → Type 0
AnswerSays edition files directory ticks (Ran o) = RunsAs edition files directory ticks o
AnswerSays edition files directory ticks (Faulty report) = HasFaults edition files directory report
AnswerSays edition files directory ticks NoPackage = HasNoPackageFiles edition files directory
AnswerSays edition files directory ticks NoMain = IsNoProgram edition files directory
