use Rattle.std.proofs.Common.{refl, count_by}
use Rattle.ws_board.specs.Rows.{is_back}
use Rattle.ws_board.proofs.Boarding.{within}
use Rattle.ws_board.proofs.Board.row_reads.Goals as goal

pub returns-clause-within : goal.returns-clause-within
returns-clause-within c =
    let b = c.self.inside in
    let J = b.rows.jobs.items in
    rw (← c.self.view_is) (within J J b.rows.importers.items b.rows.rows b.looks (count_by is_back b.history.items) refl c.self.invariant.1 c.self.invariant.5)
