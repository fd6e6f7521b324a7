-- What is known of the answer of files that are run.
use Rattle.std.proofs.Common.{◌≡◌, ℕ, List, Result, Ok, subst}
use Rattle.go_text.specs.declared.edition.Edition.{Edition}
use Rattle.go_vm.specs.Outcomes.{ProgramOutcome}
use Rattle.ws_report.specs.declared.Report.{Report}
use Rattle.ws_run.specs.Files.{Files, IsClearOf, RunsAs, HasFaults, HasNoPackageFiles, IsNoProgram}
use Rattle.ws_run.specs.Steps as steps
use Rattle.ws_run.specs.declared.answer.RunReport.{RunReport}
use Rattle.ws_run.specs.declared.answer.RunReport.TheVariants.{Ran, Faulty, NoPackage, NoMain}

told_by : {E : Type 0} (edition : Edition) (files : Files) (directory : List ℕ) (ticks : ℕ) (answer : RunReport) (r : Result RunReport E) → r ≡ Ok answer
    → ((o : ProgramOutcome) → r ≡ Ok (Ran o) → IsClearOf edition files directory → RunsAs edition files directory ticks o)
    → ((report : Report) → r ≡ Ok (Faulty report) → IsClearOf edition files directory → HasFaults edition files directory report)
    → (r ≡ Ok NoPackage → HasNoPackageFiles edition files directory)
    → (r ≡ Ok NoMain → IsClearOf edition files directory → IsNoProgram edition files directory)
    → steps.IsReportOfRun edition files directory ticks answer
told_by edition files directory ticks (Ran o) r is means faulty none other = means o is
told_by edition files directory ticks (Faulty report) r is means faulty none other = faulty report is
told_by edition files directory ticks NoPackage r is means faulty none other = none is
told_by edition files directory ticks NoMain r is means faulty none other = other is

-- what the answer of files says, where their directory is told by another value that is equal
pub comes_of : {E : Type 0} (edition : Edition) (files : Files) (directory given : List ℕ) (ticks : ℕ) (answer : RunReport) (r : Result RunReport E) → given ≡ directory → r ≡ Ok answer
    → ((o : ProgramOutcome) → r ≡ Ok (Ran o) → IsClearOf edition files given → RunsAs edition files given ticks o)
    → ((report : Report) → r ≡ Ok (Faulty report) → IsClearOf edition files given → HasFaults edition files given report)
    → (r ≡ Ok NoPackage → HasNoPackageFiles edition files given)
    → (r ≡ Ok NoMain → IsClearOf edition files given → IsNoProgram edition files given)
    → steps.IsReportOfRun edition files directory ticks answer
comes_of edition files directory given ticks answer r same is means faulty none other =
    subst (λ (d : List ℕ). steps.IsReportOfRun edition files d ticks answer) same (told_by edition files given ticks answer r is means faulty none other)
