use Rattle.std.proofs.Common.{◌≡◌, length}
use Rattle.ws_reach.specs.Reach.{rows_of}
use Rattle.go_init.proofs.Waiting.{Condensing}
use Rattle.go_init.proofs.condensation.condensed.Given as goal

abbrev pub invariant-loop-node : goal.invariant-loop-node
invariant-loop-node l = record {
  size : length l.waits.items ≡ length l.rows;
  condensing : Condensing (rows_of l.rows) (rows_of l.waits.items) l.count l.roots l.node;
}
