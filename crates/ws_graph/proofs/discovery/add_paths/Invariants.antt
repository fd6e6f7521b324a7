use Rattle.std.proofs.Common.{take}
use Rattle.ws_graph.specs.Discovery.{held_sources, string_texts, AddsPaths}
use Rattle.ws_graph.proofs.discovery.add_paths.Given as goal

abbrev pub invariant-loop-target : goal.invariant-loop-target
invariant-loop-target l = AddsPaths (held_sources l.registers) (take l.target-index l.targets) (string_texts l.fn.imported.items) (string_texts l.imported.items)
