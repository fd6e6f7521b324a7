use Rattle.std.proofs.Common.{◌-◌, ◌*◌, ◌≤◌, [], eqb, length, drop}
use Rattle.std.specs.List.{list_any, slice_index_or}
use Rattle.ws_board.specs.Propagation.{held_by}
use Rattle.ws_board.specs.Rows.{Waits, Propagates, IsUndone}
use Rattle.ws_board.proofs.propagation.tell.Given as goal

-- the first so many importers were carried on
abbrev pub invariant-importers : goal.invariant-importers
invariant-importers l = record {
  on : Propagates (held_by l.holds) (4 * l.number) l.fn.rows l.rows l.fn.moves l.moves l.fn.looks l.looks;
  undone : IsUndone l.fn.rows l.rows l.fn.moves l.moves;
  within : l.number ≤ length (slice_index_or l.fn.rows.importers.items l.job []);
  waits : Waits l.fn.rows.jobs.items l.fn.rows.rows l.fn.moves.settled.items (λ j. list_any (λ k. eqb k j) (slice_index_or l.fn.rows.importers.items l.job []))
      → Waits l.rows.jobs.items l.rows.rows l.moves.settled.items (λ j. list_any (λ k. eqb k j) (drop l.number (slice_index_or l.fn.rows.importers.items l.job [])));
}

abbrev pub decreases-importers : goal.decreases-importers
decreases-importers l = length (slice_index_or l.fn.rows.importers.items l.job []) - l.number
