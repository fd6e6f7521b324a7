use Rattle.ws_board.specs.Rows.{AreImporters}
use Rattle.ws_board.proofs.rows.importers_of.Given as goal

abbrev pub invariant-loop-job : goal.invariant-loop-job
invariant-loop-job l = AreImporters l.jobs l.job l.importers.items
