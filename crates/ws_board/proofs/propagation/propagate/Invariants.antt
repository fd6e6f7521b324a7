use Rattle.std.proofs.Common.{◌+◌, false, length, count_by}
use Rattle.ws_board.specs.Machine.{is_open}
use Rattle.ws_board.specs.Propagation.{held_by}
use Rattle.ws_board.specs.Rows.{Waits, Propagates, IsUndone}
use Rattle.ws_board.specs.Table.{job_states_of}
use Rattle.ws_board.proofs.propagation.propagate.Given as goal

abbrev pub invariant-settled : goal.invariant-settled
invariant-settled l = record {
  on : Propagates (held_by l.holds) 0 l.fn.rows l.rows l.fn.moves l.moves l.fn.looks l.looks;
  undone : IsUndone l.fn.rows l.rows l.fn.moves l.moves;
  waits : Waits l.rows.jobs.items l.rows.rows l.moves.settled.items (λ j. false);
}

abbrev pub decreases-settled : goal.decreases-settled
decreases-settled l = length l.moves.settled.items + count_by is_open (job_states_of l.rows.rows).statuses
