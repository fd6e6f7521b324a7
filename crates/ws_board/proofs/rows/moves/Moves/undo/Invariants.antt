use Rattle.std.proofs.Common.{◌≡◌, length}
use Rattle.ws_board.specs.Rows.{undone, AreWritten}
use Rattle.ws_board.proofs.rows.moves.Moves.undo.Given as goal

abbrev pub invariant-log : goal.invariant-log
invariant-log l = record {
  rows : undone l.log.items l.rows.rows ≡ undone l.fn.self.log.items l.fn.rows.rows;
  jobs : l.rows.jobs.items ≡ l.fn.rows.jobs.items;
  importers : l.rows.importers.items ≡ l.fn.rows.importers.items;
  inside : AreWritten (length l.rows.rows) l.log.items;
}

abbrev pub decreases-log : goal.decreases-log
decreases-log l = length l.log.items
