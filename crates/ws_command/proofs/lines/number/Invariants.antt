use Rattle.std.proofs.Common.{◌≡◌, drop}
use Rattle.ws_command.specs.Lines.{digits_from}
use Rattle.ws_command.proofs.lines.number.Given as goal

abbrev pub invariant-loop-digit : goal.invariant-loop-digit
invariant-loop-digit l = digits_from l.value (drop l.digit-index l.word) ≡ digits_from 0 l.word
