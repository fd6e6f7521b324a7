use Rattle.std.proofs.Common.{map}
use Rattle.ws_reach.specs.Reach.{rows_of}
use Rattle.ws_reach.proofs.Rows.{RowsAre}
use Rattle.go_init.specs.Nodes.{Refers}
use Rattle.go_init.specs.Views.{node_of}
use Rattle.go_init.proofs.edges.edges.Given as goal

abbrev pub invariant-loop-number : goal.invariant-loop-number
invariant-loop-number l = RowsAre (Refers (map node_of l.nodes)) (rows_of l.rows.items) l.number
