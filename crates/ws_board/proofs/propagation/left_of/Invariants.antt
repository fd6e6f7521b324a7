use Rattle.std.proofs.Common.{◌+◌, ◌*◌, ◌≤◌}
use Rattle.ws_board.specs.Rows.{IsOpenPast}
use Rattle.ws_board.proofs.propagation.left_of.Given as goal

abbrev pub invariant-loop-left : goal.invariant-loop-left
invariant-loop-left l = record {
  fewer : l.left ≤ l.fn.left;
  past : IsOpenPast l.rows.jobs.items l.rows.rows l.job l.fn.left → IsOpenPast l.rows.jobs.items l.rows.rows l.job l.left;
  paid : l.looks + 2 * l.left ≤ l.fn.looks + 2 * l.fn.left;
  more : l.fn.looks ≤ l.looks;
}

abbrev pub decreases-loop-left : goal.decreases-loop-left
decreases-loop-left l = l.left
