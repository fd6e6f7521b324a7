use Rattle.ws_version_vector.proofs.Tops.{AreNext}
use Rattle.ws_version_vector.proofs.family.Vectors.with_top.Given as goal

abbrev pub invariant-loop-top : goal.invariant-loop-top
invariant-loop-top l = AreNext l.self l.at l.top-items l.next.items l.top-index
