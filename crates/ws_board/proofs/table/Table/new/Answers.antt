use Rattle.std.proofs.Common.{rules, ◌≡◌, ◌∙◌, sym, count_by}
use Rattle.ws_board.specs.declared.table.Row.{Row}
use Rattle.ws_board.specs.Machine.{is_open}
use Rattle.ws_board.proofs.Standing.{opens_of}
use Rattle.ws_board.proofs.table.Table.new.Goals as goal

pub invariant_of-result : goal.invariant_of-result
invariant_of-result c =
    let count : c.count-opens.result ≡ count_by (λ (r : Row). is_open r.status) c.args.rows.items = search rules in
    count ∙ sym (opens_of c.args.rows.items)
