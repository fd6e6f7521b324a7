use Rattle.ws_graph.specs.Discovery.{held_sources, string_texts}
use Rattle.ws_graph.proofs.First.{FirstSoFar}
use Rattle.ws_graph.proofs.planning.first_wave.Given as goal

abbrev pub invariant-loop-path : goal.invariant-loop-path
invariant-loop-path l = FirstSoFar (held_sources l.registers) (string_texts l.fn.targets) (string_texts l.path-iterator.rest.items) l.wave.items
