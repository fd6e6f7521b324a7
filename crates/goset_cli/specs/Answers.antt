-- What a session answers where its script wasn't read, or its answers weren't written.
use Rattle.goset_cli.specs.declared.reading.ReadError.{ReadError}
use Rattle.goset_cli.specs.declared.reading.ReadError.TheVariants as reads
use Rattle.goset_cli.specs.declared.running.AnswerError.{AnswerError}
use Rattle.goset_cli.specs.declared.running.AnswerError.TheVariants as answers
use Rattle.goset_cli.specs.declared.running.SessionError.{SessionError}
use Rattle.goset_cli.specs.declared.running.SessionError.TheVariants.{Memory, Read, Write, TooLong}

abbrev pub unread : ReadError → SessionError
unread reads.Memory = Memory
unread reads.Read = Read
unread reads.TooLong = TooLong

abbrev pub unanswered : AnswerError → SessionError
unanswered answers.Memory = Memory
unanswered answers.Write = Write
