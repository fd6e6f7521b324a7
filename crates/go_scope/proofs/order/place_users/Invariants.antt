use Rattle.std.proofs.Common.{◌≤◌}
use Rattle.ws_reach.specs.Reach.{rows_of}
use Rattle.go_scope.specs.Placing.{Placing, unplaced_count}
use Rattle.go_scope.proofs.order.place_users.Given as goal

abbrev pub invariant-loop-user : goal.invariant-loop-user
invariant-loop-user l = record {
  placing : Placing (rows_of l.rows) l.placed;
  less : unplaced_count l.placed ≤ unplaced_count l.fn.placed;
}
