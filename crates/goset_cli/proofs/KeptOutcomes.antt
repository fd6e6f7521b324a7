-- What is known of how a run ends that goes on from what is kept.
use Rattle.std.proofs.Common.{◌≡◌, ℕ, List, Option, Result, Err, refl, subst, inl}
use Rattle.clap.specs.Walk.{Text}
use Rattle.clap.specs.declared.error.kind.ErrorKind.{ErrorKind}
use Rattle.go_text.specs.declared.edition.Edition.{Edition}
use Rattle.goset_cli.specs.CommandLine.{expected_digest, keep_edition_of, keep_name_of}
use Rattle.goset_cli.specs.Failures.{failed_writes}
use Rattle.goset_cli.specs.KeptRuns.{KeptBy, KeptRun}
use Rattle.goset_cli.specs.KeptStatuses.{error_writes}
use Rattle.goset_cli.specs.Statuses.{FailsByKind}
use Rattle.goset_cli.specs.Streams.{ReadResult}
use Rattle.goset_cli.specs.declared.keeping.KeepError.{KeepError}
use Rattle.goset_cli.specs.declared.keeping.KeepError.TheVariants.{Session}
use Rattle.goset_cli.specs.declared.running.SessionError.{SessionError}
use Rattle.goset_cli.specs.declared.running.SessionError.TheVariants.{Memory}
use Rattle.goset_cli.specs.declared.status.Status.{Status}
use Rattle.goset_cli.proofs.Outcomes.{stays, writes_as}

-- how many failures of the writer a failure of words counts, where it is one of a run
pub same_writes : (k : ErrorKind) (failure : SessionError) → FailsByKind k failure → failed_writes {A = Status} (Err failure) ≡ error_writes (Session failure)
same_writes k failure fails = writes_as Status (Unit {0}) failure

-- a run that had no memory to read its words kept nothing, and told and wrote nothing
pub memory_kept : {A : Type 0} (words : List Text) (ended : Result A KeepError) (store : List ℕ → Option (List ℕ)) (told : Option (List ReadResult)) (written : Option (List ℕ)) → ended ≡ Err (Session Memory)
    → KeptBy words ended store store told told written written
memory_kept words ended store told written memory = λ none. rw memory (refl, inl (stays written))

-- a run by options is the one that the words ask for
pub kept_by : {A : Type 0} (words : List Text) (edition : Option Edition) (expected : Option (List ℕ)) (name : List ℕ) (ended : Result A KeepError) (store store' : List ℕ → Option (List ℕ))
    (told told' : Option (List ReadResult)) (written written' : Option (List ℕ)) → edition ≡ keep_edition_of words → expected ≡ expected_digest words → name ≡ keep_name_of words
    → KeptRun edition expected ended (store name) (store' name) told told' written written' → KeptBy words ended store store' told told' written written'
kept_by words edition expected name ended store store' told told' written written' same_edition same_expected same_name run = λ none.
    subst (λ (n : List ℕ). KeptRun (keep_edition_of words) (expected_digest words) ended (store n) (store' n) told told' written written') same_name
    (subst (λ (x : Option (List ℕ)). KeptRun (keep_edition_of words) x ended (store name) (store' name) told told' written written') same_expected
    (subst (λ (e : Option Edition). KeptRun e expected ended (store name) (store' name) told told' written written') same_edition run))
