use Rattle.std.proofs.Common.{refl}
use Rattle.ws_board.specs.declared.table.Row.{Row}
use Rattle.ws_board.specs.declared.work.JobStatus.TheVariants.{Running}
use Rattle.ws_board.specs.Table.{given_to}
use Rattle.ws_board.proofs.Standing.{opens_written}
use Rattle.ws_board.proofs.table.Table.run.Goals as goal

pub invariant_of-self : goal.invariant_of-self
invariant_of-self c =
    let row : Row = given_to c.args.hand c.index_mut.result.now in
    opens_written c.self.inside.rows.items c.args.self.now c.args.k row (Running c.args.hand) c.open_with-self-inside.result c.self.view_is refl c.open_with-self-inside.ensures
