use Rattle.std.proofs.Common.{◌≡◌, ◌+◌, ◌≤◌, ℕ, drop}
use Rattle.std.specs.Prelude.{if◌then◌else◌}
use Rattle.ws_board.specs.Rows.{owed, untold, times, is_active_of, IsUndone}
use Rattle.ws_board.proofs.Marking.{MarksSome}
use Rattle.ws_board.proofs.propagation.mark.Given as goal

abbrev pub invariant-loop-job : goal.invariant-loop-job
invariant-loop-job l = record {
  undone : IsUndone l.fn.rows l.rows l.fn.moves l.moves;
  some : MarksSome l.id l.good l.fn.rows.rows l.rows.rows l.moves.settled.items;
  rest : (k : ℕ) → times k (drop l.job-index l.jobs) ≡ (if is_active_of l.rows.rows l.id k then 1 else 0);
  ready : l.moves.ready.items ≡ l.fn.moves.ready.items;
  paid : l.looks + owed l.rows.rows + untold l.rows.importers.items l.moves.settled.items ≤ l.fn.looks + owed l.fn.rows.rows + untold l.fn.rows.importers.items l.fn.moves.settled.items;
  more : l.fn.looks ≤ l.looks;
}
