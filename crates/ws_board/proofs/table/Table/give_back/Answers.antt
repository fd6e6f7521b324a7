use Rattle.std.proofs.Common.{refl}
use Rattle.ws_board.specs.declared.table.Row.{Row}
use Rattle.ws_board.specs.declared.work.JobStatus.TheVariants.{Ready}
use Rattle.ws_board.specs.Table.{given_back}
use Rattle.ws_board.proofs.Standing.{opens_written}
use Rattle.ws_board.proofs.table.Table.give_back.Goals as goal

pub invariant_of-self : goal.invariant_of-self
invariant_of-self c =
    let row : Row = given_back c.index_mut-row.result.now in
    opens_written c.self.inside.rows.items c.args.self.now c.args.k row Ready c.open_with-self-inside.result c.self.view_is refl c.open_with-self-inside.ensures
