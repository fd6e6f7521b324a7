use Rattle.std.proofs.Common.{◌≡◌, ◌++◌, List, map}
use Rattle.ws_graph.specs.declared.wave.Found.{Found}
use Rattle.ws_graph.specs.Node.{directory_of}
use Rattle.ws_graph.specs.Discovery.{string_texts}
use Rattle.ws_graph.proofs.Linked.{AreLinkedFrom}
use Rattle.ws_graph.proofs.planning.linked.Given as goal

abbrev pub invariant-loop-found : goal.invariant-loop-found
invariant-loop-found l = (done : List Found) × (l.fn.founds.items ≡ done ++ l.found-iterator.rest.items) × AreLinkedFrom (string_texts l.paths) l.links 0 done (map directory_of l.directories.items)
