use Rattle.std.proofs.Common.{◌≡◌, ◌∙◌, ◌<◌, length, arith}
use Rattle.ws_replica.proofs.Steps.{imports_next}
use Rattle.ws_replica.proofs.reached.import_rows.Goals as goal

pub loop-one-preserved : goal.loop-one-preserved
loop-one-preserved c =
    let within : c.loop-one.one-index < length c.args.reached.now = omega arith in
    let same : c.in_ok-row.row.items ≡ c.one-item.result.imports.items = c.in_ok-row.ensures.items ∙ c.deref.ensures.value in
    imports_next c.args.reached.now c.loop-one.one-index c.one-item.result c.loop-one.rows.items c.push.new.self.items c.in_ok-row.row within c.one-item.is c.in_ok-push.ensures.items same c.loop-one.invariant
