use Rattle.std.proofs.Common.{◌≡◌, length}
use Rattle.ws_reach.specs.Reach.{rows_of}
use Rattle.go_init.proofs.Waiting.{Waiting}
use Rattle.go_init.proofs.condensation.wait_for_row.Given as goal

abbrev pub invariant-loop-i : goal.invariant-loop-i
invariant-loop-i l = record {
  size : length l.waits.items ≡ length l.fn.waits.items;
  waiting : Waiting (rows_of l.fn.waits.items) (rows_of l.waits.items) l.count l.roots l.row l.source l.i;
}
