use Rattle.std.proofs.Common.{◌+◌}
use Rattle.ws_reach.specs.Reach.{Edge, rows_of}
use Rattle.ws_reach.proofs.Rows.{RowsAre}
use Rattle.go_init.proofs.components.edges_behind.Given as goal

abbrev pub invariant-loop-node : goal.invariant-loop-node
invariant-loop-node l = RowsAre (λ x y. Edge (rows_of l.rows) (l.count + x) (l.count + y)) (rows_of l.behind.items) l.node
