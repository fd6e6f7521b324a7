use Rattle.std.proofs.Common.{◌+◌, ◌*◌, ◌≤◌}
use Rattle.std.specs.Prelude.{nat_le}
use Rattle.ws_board.specs.Propagation.{held_by}
use Rattle.ws_board.specs.Rows.{Waits, Propagates}
use Rattle.ws_board.proofs.propagation.advance_all.Given as goal

abbrev pub invariant-loop-job : goal.invariant-loop-job
invariant-loop-job l = record {
  on : Propagates (held_by l.holds) (3 * l.job) l.fn.rows l.rows l.fn.moves l.moves l.fn.looks l.looks;
  waits : Waits l.rows.jobs.items l.rows.rows l.moves.settled.items (λ j. nat_le l.job j);
  read : l.fn.looks + l.job ≤ l.looks;
}
