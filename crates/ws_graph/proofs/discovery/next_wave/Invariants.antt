use Rattle.ws_graph.specs.Discovery.{held_sources, string_texts, met_paths}
use Rattle.ws_graph.proofs.Next.{NextSoFar}
use Rattle.ws_graph.proofs.discovery.next_wave.Given as goal

abbrev pub invariant-loop-path : goal.invariant-loop-path
invariant-loop-path l = NextSoFar (held_sources l.registers) (met_paths l.met.entries) (string_texts l.fn.imported.items) (string_texts l.path-iterator.rest.items) l.wave.items
