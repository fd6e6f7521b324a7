use Rattle.ws_board.specs.Rows.{AreFirstRows}
use Rattle.ws_board.proofs.rows.waiting_rows.Given as goal

abbrev pub invariant-loop-k : goal.invariant-loop-k
invariant-loop-k l = AreFirstRows l.jobs l.importers l.k l.rows.items
