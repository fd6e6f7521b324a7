-- The writes of a list of nodes.
use Rattle.std.specs.Prelude.{List, [], Option, None, Some, Vec}
use Rattle.std.specs.Arc.{arc_value}
use Rattle.std.specs.declared.sync.Arc.{Arc}
use Rattle.ws_version.specs.Writes.{Write}
use Rattle.ws_register.specs.declared.node.Node.{Node}
use Rattle.ws_register.specs.Listed.{all_writes_of, all_writes}

abbrev pub writes_below : Node → List Write
writes_below node = all_writes node.pages.items

-- those of all nodes, one node after another
abbrev pub all_nodes : {Z : Type 0} → List (Arc Node Z) → List Write
all_nodes nodes = all_writes_of writes_below nodes

-- those of a list of nodes, where there is one
abbrev pub listed_writes : {X Y Z : Type 0} → Option (Arc (Vec (Arc Node Z) Y) X) → List Write
listed_writes None = []
listed_writes (Some nodes) = all_nodes (arc_value nodes).items
