use Rattle.std.proofs.Common.{◌∙◌, ◌<◌, List, length, map, ap, arith}
use Rattle.ws_replica.specs.Jobs.{reached_of}
use Rattle.ws_replica.specs.Parts.{reached_rows}
use Rattle.ws_replica.specs.declared.reached.Reached.{Reached as RustReached}
use Rattle.ws_replica.proofs.PartSteps.{rows_next}
use Rattle.ws_replica.proofs.parts.all_rows.Goals as goal

pub loop-reached-preserved : goal.loop-reached-preserved
loop-reached-preserved c =
    let within : c.loop-reached.reached-index < length c.args.all.now = omega arith in
    rows_next c.args.all.now c.loop-reached.reached-index c.reached-item.result c.loop-reached.rows.items c.push.new.self.items c.in_ok-import_rows.field-0 within c.reached-item.is c.in_ok-push.ensures.items
    (c.in_ok-import_rows.ensures ∙ ap (λ (rs : List RustReached). reached_rows (map reached_of rs)) c.deref.ensures.value) c.loop-reached.invariant
