use Rattle.ws_graph.proofs.InTurn.{MadeSoFar, IsReadOf}
use Rattle.ws_graph.proofs.wave.read_in_turn.Given as goal

abbrev pub invariant-loop-waiting : goal.invariant-loop-waiting
invariant-loop-waiting g l = MadeSoFar (IsReadOf l.edition) l.fn.wave.items l.waiting-iterator.rest.items l.all.items
