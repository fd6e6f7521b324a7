use Rattle.std.proofs.Common.{◌≡◌, length, ap, subst, arith}
use Rattle.ws_board.specs.Rows.{AreFirstRows}
use Rattle.ws_board.proofs.Importing.{first_none, first_more, first_is}
use Rattle.ws_board.proofs.rows.waiting_rows.Goals as goal

pub loop-k-init : goal.loop-k-init
loop-k-init c = first_none c.args.jobs.now c.args.importers.now c.in_ok-rows.rows.items c.in_ok-rows.ensures.items

pub loop-k-preserved : goal.loop-k-preserved
loop-k-preserved c =
    let k = c.loop-k.k in
    first_more c.args.jobs.now c.args.importers.now k c.loop-k.rows.items c.push.new.self.items c.waiting_row-row.result c.in_ok-push.ensures.items
    (first_is c.args.jobs.now c.args.importers.now k c.waiting_row-row.result (length c.imports_of-imports.result.now) (length c.list_at.result.now) c.waiting_row-row.ensures (ap length c.imports_of-imports.ensures) (ap length c.list_at.ensures)) c.loop-k.invariant

pub returns : goal.returns
returns c =
    let n : c.loop-k.k ≡ length c.args.jobs.now = omega arith in
    subst (λ i. AreFirstRows c.args.jobs.now c.args.importers.now i c.loop-k.rows.items) n c.loop-k.invariant
