use Rattle.ws_version_vector.proofs.Reading.{AreTaken}
use Rattle.ws_version_vector.proofs.vector.take_greater.Given as goal

abbrev pub invariant-loop-i : goal.invariant-loop-i
invariant-loop-i l = AreTaken l.initial.counts l.others l.counts l.i
