use Rattle.ws_graph.specs.Discovery.{ParsesTo}
use Rattle.ws_graph.proofs.InTurn.{MadeSoFar}
use Rattle.ws_graph.proofs.each_known.Given as goal

abbrev pub invariant-loop-source : goal.invariant-loop-source
invariant-loop-source l = MadeSoFar (ParsesTo l.edition) l.fn.files.items l.source-iterator.rest.items l.each.items
