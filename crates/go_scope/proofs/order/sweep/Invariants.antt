use Rattle.std.proofs.Common.{◌≡◌, ℕ, ◌<◌, ◌≤◌, true, false}
use Rattle.ws_reach.specs.Reach.{rows_of}
use Rattle.go_scope.specs.Placing.{Placing, Settled, unplaced_count}
use Rattle.go_scope.proofs.order.sweep.Given as goal

abbrev pub invariant-loop-declaration : goal.invariant-loop-declaration
invariant-loop-declaration l = record {
  placing : Placing (rows_of l.rows) l.placed;
  most : unplaced_count l.placed ≤ unplaced_count l.fn.placed;
  less : l.grew ≡ true → unplaced_count l.placed < unplaced_count l.fn.placed;
  settled : l.grew ≡ false → (i : ℕ) → i < l.declaration → Settled (rows_of l.rows) l.placed i;
}
