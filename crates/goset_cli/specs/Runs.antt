-- How files that are run end: the status, and what standard output and standard error have.
use Rattle.std.specs.Prelude.{◌≡◌, ◌⊎◌, ◌≤◌, ℕ, Bool, true, false, List, Option, Result, Ok, Err}
use Rattle.go_text.specs.declared.edition.Edition.{Edition}
use Rattle.ws_run.specs.Files.{Files}
use Rattle.ws_run.specs.Steps as steps
use Rattle.ws_run.specs.Printing.{Folders, complaint_of, output_of, status_of}
use Rattle.clap.specs.Walk.{Text}
use Rattle.goset_cli.specs.CommandLine.{run_edition_of, ticks_of, wants_plain}
use Rattle.goset_cli.specs.Diagnostics.{Explains}
use Rattle.goset_cli.specs.Refusals.{line_of}
use Rattle.goset_cli.specs.Statuses.{WritesOut, error_line, not_utf8_file}
use Rattle.goset_cli.specs.Streams.{GrowsBy}
use Rattle.goset_cli.specs.declared.failure.Failure.{Failure}
use Rattle.goset_cli.specs.declared.run.Account.{Account}
use Rattle.goset_cli.specs.declared.running.SessionError.TheVariants.{Memory}
use Rattle.goset_cli.specs.declared.status.Status.{Status}
use Rattle.goset_cli.specs.declared.status.Status.TheVariants.{Done, Misused}

-- the status of words that ask for a text, or are wrong
abbrev pub run_code_of : {E : Type 0} → Result Status E → ℕ
run_code_of ended = elim ended [ Ok Done ↦ 0 | Err e ↦ 70 | Ok Misused ↦ 64 ]

-- that of a program is at most 3
abbrev pub IsRunStatus : ℕ → Type 0
IsRunStatus status = (status ≤ 3) ⊎ ((status ≡ 64) ⊎ (status ≡ 70))

-- standard error has the failure's line, or that memory ran out for it
abbrev pub WritesFailure : Failure → ℕ → ℕ → Option (List ℕ) → Option (List ℕ) → Type 0
WritesFailure failure failed failed' written written' =
    WritesOut (line_of failure) failed failed' written written' ⊎ WritesOut (error_line Memory) failed failed' written written'

-- an account has the answer of some files, and its text: where it is to be plain one line for each fault, and else their diagnoses
pub record IsAccount (edition : Edition) (ticks : ℕ) (is_plain : Bool) (account : Account) : Type 0 where
  pub files : Files
  pub directory : List ℕ
  pub folders : Folders
  pub comes : steps.IsReportOfRun edition files directory ticks account.answer
  pub says : is_plain ≡ true → account.text.items ≡ complaint_of folders account.answer
  pub explains : is_plain ≡ false → Explains edition folders files account.answer account.text.items

-- some files were run, standard output took what the program printed, and the status is that of their answer
pub record FilesRun (edition : Edition) (ticks : ℕ) (is_plain : Bool) (written written' : Option (List ℕ)) (status : ℕ) : Type 0 where
  pub account : Account
  pub is_account : IsAccount edition ticks is_plain account
  pub prints : GrowsBy written written' (output_of account.answer)
  pub status_is : status ≡ status_of account.answer

-- the same of what words name
abbrev pub FilesRunBy : List Text → Option (List ℕ) → Option (List ℕ) → ℕ → Type 0
FilesRunBy words written written' status = FilesRun (run_edition_of words) (ticks_of words) (wants_plain words) written written' status

-- standard error has the line of a name that isn't text, or that memory ran out
abbrev pub WritesName : ℕ → ℕ → Option (List ℕ) → Option (List ℕ) → Type 0
WritesName failed failed' written written' =
    WritesOut not_utf8_file failed failed' written written' ⊎ WritesOut (error_line Memory) failed failed' written written'
