use Rattle.std.proofs.Common.{take}
use Rattle.std.specs.List.{AllZip}
use Rattle.ws_graph.specs.Node.{planned_of}
use Rattle.ws_graph.specs.Discovery.{AreTargetsOf, string_texts}
use Rattle.ws_graph.proofs.link.all_targets.Given as goal

abbrev pub invariant-loop-found : goal.invariant-loop-found
invariant-loop-found l = AllZip (λ found targets. AreTargetsOf (string_texts l.paths) (planned_of found.node) targets.items) (take l.found-index l.founds) l.all.items
