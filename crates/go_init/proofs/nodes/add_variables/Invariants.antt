use Rattle.std.proofs.Common.{◌≡◌, ◌++◌, drop, map}
use Rattle.go_typed.specs.Views.{initialization_of}
use Rattle.go_init.specs.Nodes.{variables_node}
use Rattle.go_init.specs.Views.{node_of}
use Rattle.go_init.proofs.nodes.add_variables.Given as goal

abbrev pub invariant-loop-of : goal.invariant-loop-of
invariant-loop-of l =
    map node_of l.nodes.items ++ map variables_node (map initialization_of (drop l.of-index l.initializations))
    ≡ map node_of l.fn.nodes.items ++ map variables_node (map initialization_of l.initializations)
