use Rattle.std.proofs.Common.{◌≡◌, ◌++◌, drop, map}
use Rattle.go_typed.specs.Views.{uses_of}
use Rattle.go_init.specs.Nodes.{function_node}
use Rattle.go_init.specs.Views.{node_of}
use Rattle.go_init.proofs.nodes.add_functions.Given as goal

abbrev pub invariant-loop-of : goal.invariant-loop-of
invariant-loop-of l =
    map node_of l.nodes.items ++ map function_node (map uses_of (drop l.of-index l.uses))
    ≡ map node_of l.fn.nodes.items ++ map function_node (map uses_of l.uses)
