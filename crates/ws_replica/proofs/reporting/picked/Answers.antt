use Rattle.std.proofs.Common.{◌<◌, length, arith}
use Rattle.std.specs.List.{slice_get}
use Rattle.ws_report.specs.Reports.{verdict_rows}
use Rattle.ws_replica.proofs.PartSteps.{picked_next}
use Rattle.ws_replica.proofs.reporting.picked.Goals as goal

pub loop-number-preserved : goal.loop-number-preserved
loop-number-preserved c =
    let within : c.loop-number.number-index < length c.args.numbers.now = omega arith in
    picked_next (slice_get (verdict_rows c.args.told.now)) c.args.numbers.now c.loop-number.number-index (verdict_rows c.loop-number.picked.items) (verdict_rows c.add_row.new.picked.items) within c.in_ok-add_row.ensures c.loop-number.invariant
