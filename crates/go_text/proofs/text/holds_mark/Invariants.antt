use Rattle.std.proofs.Common.{◌≡◌, length}
use Rattle.go_text.specs.Texts.{holds_mark}
use Rattle.go_text.proofs.text.holds_mark.Given as goal

abbrev pub invariant-loop-rest : goal.invariant-loop-rest
invariant-loop-rest l = holds_mark l.rest ≡ holds_mark l.bytes

abbrev pub decreases-loop-rest : goal.decreases-loop-rest
decreases-loop-rest l = length l.rest
