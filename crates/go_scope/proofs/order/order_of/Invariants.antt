use Rattle.ws_reach.specs.Reach.{rows_of}
use Rattle.go_scope.specs.Placing.{Placing, unplaced_count}
use Rattle.go_scope.proofs.order.order_of.Given as goal

abbrev pub invariant-loop-placed : goal.invariant-loop-placed
invariant-loop-placed l = Placing (rows_of l.rows) l.placed

abbrev pub decreases-loop-placed : goal.decreases-loop-placed
decreases-loop-placed l = unplaced_count l.placed
