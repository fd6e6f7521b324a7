use Rattle.std.proofs.Common.{take}
use Rattle.ws_reach.specs.Reach.{rows_of}
use Rattle.ws_graph.specs.Discovery.{HasFault, NoneHas}
use Rattle.ws_graph.proofs.link.first_with.Given as goal

abbrev pub invariant-loop-target : goal.invariant-loop-target
invariant-loop-target l = NoneHas (HasFault (rows_of l.links.closing.items) l.links.programs.items l.here l.kind) (take l.target-index l.targets)
