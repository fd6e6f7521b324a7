-- What is known of a refusal that is handed on.
use Rattle.std.proofs.Common.{◌≡◌, List, ℕ, Option, Result, Ok, Err, inr}
use Rattle.std.specs.Prelude.{OnErr}
use Rattle.go_text.specs.declared.edition.Edition.{Edition}
use Rattle.goset_cli.specs.declared.running.AnswerError.{AnswerError}
use Rattle.goset_cli.specs.declared.running.AnswerError.TheVariants.{Memory, Write}
use Rattle.goset_cli.specs.declared.running.SessionError.{SessionError}
use Rattle.goset_cli.specs.Streams.{ReadResult}
use Rattle.goset_cli.specs.Reading.{GaveAll}
use Rattle.goset_cli.specs.Ends.{WroteSome, Session}
use Rattle.goset_cli.specs.Answers.{unanswered}

-- what holds anyway holds on a refusal
pub on_refusal : {A E : Type 0} {P : Type 0} (r : Result A E) → P → OnErr r P
on_refusal (Ok a) p = tt
on_refusal (Err e) p = p

-- where answers weren't written, the script was read and a beginning was written
pub session_unanswered : {A : Type 0} (edition : Edition) (refusal : AnswerError) (r : Result A SessionError) (told told' : Option (List ReadResult)) (written written' : Option (List ℕ)) (script : List ℕ) →
    r ≡ Err (unanswered refusal) → GaveAll told told' script → WroteSome edition script written written' → Session edition r told told' written written'
session_unanswered edition Memory r told told' written written' script e gave wrote = rw e (inr (script, gave, wrote))
session_unanswered edition Write r told told' written written' script e gave wrote = rw e (script, gave, wrote)
