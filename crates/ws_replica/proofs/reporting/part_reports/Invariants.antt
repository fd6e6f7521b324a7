use Rattle.std.proofs.Common.{map, take}
use Rattle.std.specs.List.{AllZip}
use Rattle.ws_replica.specs.Parts.{target_part, IsReportPart}
use Rattle.ws_replica.proofs.reporting.part_reports.Given as goal

abbrev pub invariant-loop-part : goal.invariant-loop-part
invariant-loop-part l = AllZip (IsReportPart l.told) (map target_part (take l.part-index l.parts)) l.reports.items
