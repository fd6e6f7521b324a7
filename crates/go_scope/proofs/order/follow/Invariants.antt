use Rattle.std.proofs.Common.{◌≤◌}
use Rattle.ws_reach.specs.Reach.{rows_of}
use Rattle.go_scope.specs.Placing.{Placing, unplaced_count}
use Rattle.go_scope.proofs.order.follow.Given as goal

abbrev pub invariant-loop-next : goal.invariant-loop-next
invariant-loop-next l = record {
  placing : Placing (rows_of l.rows) l.placed;
  less : unplaced_count l.placed ≤ unplaced_count l.fn.placed;
}
