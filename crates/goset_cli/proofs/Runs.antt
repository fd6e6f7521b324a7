-- What is known of how files that are run end.
use Rattle.std.proofs.Common.{◌≡◌, ◌≤◌, ℕ, Bool, List, Option, Result, Ok, Err, inl, inr, arith, refl, subst}
use Rattle.std.specs.Prelude.{◌⊎◌}
use Rattle.clap.specs.Walk.{Text}
use Rattle.go_text.specs.declared.edition.Edition.{Edition}
use Rattle.goset_cli.specs.CommandLine.{run_edition_of, ticks_of, wants_plain}
use Rattle.goset_cli.specs.Runs.{IsRunStatus, FilesRun, FilesRunBy, WritesFailure, run_code_of}
use Rattle.goset_cli.specs.Statuses.{WritesOut, error_line}
use Rattle.goset_cli.specs.declared.failure.Failure.{Failure}
use Rattle.goset_cli.specs.declared.failure.Failure.TheVariants as failures
use Rattle.goset_cli.specs.declared.running.SessionError.{SessionError}
use Rattle.goset_cli.specs.declared.running.SessionError.TheVariants.{Memory, Read, Write, TooLong}
use Rattle.goset_cli.specs.declared.status.Status.{Status}
use Rattle.goset_cli.specs.declared.status.Status.TheVariants.{Done, Misused}

-- ---- statuses

pub code_known : {E : Type 0} (ended : Result Status E) → IsRunStatus (run_code_of ended)
code_known (Ok Done) = inl (omega arith)
code_known (Err e) = inr (inr refl)
code_known (Ok Misused) = inr (inl refl)

pub is_shown : {E : Type 0} (ended : Result Status E) → (run_code_of ended ≡ 70 → ⊥) → (run_code_of ended ≡ 64 → ⊥) → ended ≡ Ok Done
is_shown (Ok Done) not_70 not_64 = refl
is_shown (Err e) not_70 not_64 = absurd (not_70 refl)
is_shown (Ok Misused) not_70 not_64 = absurd (not_64 refl)

pub is_failed : {E : Type 0} (ended : Result Status E) → run_code_of ended ≡ 70 → (failure : E) × (ended ≡ Err failure)
is_failed (Ok Done) h = absurd (omega (arith, h))
is_failed (Err e) h = (e, refl)
is_failed (Ok Misused) h = absurd (omega (arith, h))

pub is_misused : {E : Type 0} (ended : Result Status E) → run_code_of ended ≡ 64 → ended ≡ Ok Misused
is_misused (Ok Done) h = absurd (omega (arith, h))
is_misused (Err e) h = absurd (omega (arith, h))
is_misused (Ok Misused) h = refl

-- a program's status, and that of a failure, isn't that of wrong words
pub not_misused : (status : ℕ) → (status ≤ 3) ⊎ (status ≡ 70) → status ≡ 64 → ⊥
not_misused status known is = elim known [
  | inl small ↦ omega (arith, small, is)
  | inr failed ↦ omega (arith, failed, is)
]

-- ---- runs

-- what was run is what the words name
pub ran_by : (words : List Text) (edition : Edition) (ticks : ℕ) (is_plain : Bool) (written written' : Option (List ℕ)) (status : ℕ)
    → edition ≡ run_edition_of words → ticks ≡ ticks_of words → is_plain ≡ wants_plain words → FilesRun edition ticks is_plain written written' status → FilesRunBy words written written' status
ran_by words edition ticks is_plain written written' status its_edition its_ticks its_form ran =
    subst (λ (form : Bool). FilesRun (run_edition_of words) (ticks_of words) form written written' status) its_form
    (subst (λ (number : ℕ). FilesRun (run_edition_of words) number is_plain written written' status) its_ticks
    (subst (λ (named : Edition). FilesRun named ticks is_plain written written' status) its_edition ran))

-- what words that ask for a text fail by is a failure of a run
pub told_failure : {T : Type 0} (failed failed' : ℕ) (written written' : Option (List ℕ)) (failure : SessionError) → (failure ≡ Memory) ⊎ ((failure ≡ Write) × T)
    → WritesOut (error_line failure) failed failed' written written' → (it : Failure) × WritesFailure it failed failed' written written'
told_failure failed failed' written written' Memory why told = (failures.Memory, inl told)
told_failure failed failed' written written' Write why told = (failures.Write, inl told)
told_failure failed failed' written written' Read why told = elim why [
  | inl is ↦ cc
  | inr is ↦ let bad = is.0 in cc
]
told_failure failed failed' written written' TooLong why told = elim why [
  | inl is ↦ cc
  | inr is ↦ let bad = is.0 in cc
]
