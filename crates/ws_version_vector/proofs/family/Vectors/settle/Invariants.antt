use Rattle.ws_version_vector.specs.Counts.{AreFirstNumbers}
use Rattle.ws_version_vector.proofs.family.Vectors.settle.Given as goal

abbrev pub invariant-loop-number : goal.invariant-loop-number
invariant-loop-number l = AreFirstNumbers l.number l.numbers.items
