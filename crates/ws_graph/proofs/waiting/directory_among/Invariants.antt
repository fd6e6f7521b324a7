use Rattle.std.proofs.Common.{◌≡◌}
use Rattle.ws_register.specs.Texted.{texted}
use Rattle.ws_graph.specs.Packages.{package_files}
use Rattle.ws_graph.specs.Discovery.{held_sources}
use Rattle.ws_graph.proofs.waiting.directory_among.Given as goal

abbrev pub invariant-loop-source : goal.invariant-loop-source
invariant-loop-source l = package_files l.path (texted l.source-iterator.rest.items) ≡ package_files l.path (held_sources l.registers)
