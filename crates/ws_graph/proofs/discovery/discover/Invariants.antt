use Rattle.std.proofs.Common.{◌-◌, length}
use Rattle.ws_graph.specs.Discovery.{held_sources, waiting_paths}
use Rattle.ws_graph.proofs.Filed.{built_directories}
use Rattle.ws_graph.proofs.Walking.{AtWave}
use Rattle.ws_graph.proofs.discovery.discover.Given as goal

abbrev pub invariant-loop-alloc : goal.invariant-loop-alloc
invariant-loop-alloc g l = AtWave l.edition (held_sources l.registers) (waiting_paths l.fn.first.items) l.met.entries l.wave.items

abbrev pub decreases-loop-alloc : goal.decreases-loop-alloc
decreases-loop-alloc g l = length (built_directories (held_sources l.registers)) - length l.met.entries
