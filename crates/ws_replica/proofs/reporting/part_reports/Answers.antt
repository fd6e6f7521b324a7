use Rattle.std.proofs.Common.{◌<◌, length, sym, arith}
use Rattle.ws_replica.proofs.PartSteps.{reports_next}
use Rattle.ws_replica.proofs.reporting.part_reports.Goals as goal

pub loop-part-preserved : goal.loop-part-preserved
loop-part-preserved c =
    let within : c.loop-part.part-index < length c.args.parts.now = omega arith in
    reports_next c.args.told.now c.args.parts.now c.loop-part.part-index c.part-item.result c.loop-part.reports.items c.push.new.self.items c.in_ok-report.report within c.part-item.is c.in_ok-push.ensures.items c.in_ok-report.ensures c.loop-part.invariant

pub part_report-requires : goal.part_report-requires
part_report-requires c = c.requires c.part-item.result (c.loop-part.part-index, c.loop-part-test.true, sym c.part-item.is)
