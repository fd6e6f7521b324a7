use Rattle.std.proofs.Common.{rules, ◌≡◌, ap}
use Rattle.ws_board.specs.declared.table.Row.{Row}
use Rattle.ws_board.proofs.Standing.{opens_written}
use Rattle.ws_board.proofs.table.Table.put.Goals as goal

pub invariant_of-self : goal.invariant_of-self
invariant_of-self c =
    let written : c.replace.new.dest ≡ c.args.row = search rules in
    opens_written c.self.inside.rows.items c.args.self.now c.args.k c.replace.new.dest c.args.row.status c.open_with-self-inside.result c.self.view_is
    (ap (λ (r : Row). r.status) written) c.open_with-self-inside.ensures
