-- How many failures of its ends a session's answer counts.
use Rattle.std.specs.Prelude.{ℕ, Result, Ok, Err}
use Rattle.goset_cli.specs.declared.running.AnswerError.{AnswerError}
use Rattle.goset_cli.specs.declared.running.AnswerError.TheVariants as answers
use Rattle.goset_cli.specs.declared.running.SessionError.{SessionError}
use Rattle.goset_cli.specs.declared.running.SessionError.TheVariants.{Read, Write}

-- of the reader
abbrev pub failed_reads : {A : Type 0} → Result A SessionError → ℕ
failed_reads ended = elim ended [ Err Read ↦ 1 | _ ↦ 0 ]

-- of the writer
abbrev pub failed_writes : {A : Type 0} → Result A SessionError → ℕ
failed_writes ended = elim ended [ Err Write ↦ 1 | _ ↦ 0 ]

-- of the writer, where the script is read
abbrev pub unwritten_count : {A : Type 0} → Result A AnswerError → ℕ
unwritten_count (Ok a) = 0
unwritten_count (Err answers.Memory) = 0
unwritten_count (Err answers.Write) = 1
