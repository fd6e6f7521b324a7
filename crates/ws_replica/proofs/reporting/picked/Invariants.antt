use Rattle.std.proofs.Common.{◌≡◌, take}
use Rattle.std.specs.List.{filter_map, slice_get}
use Rattle.ws_report.specs.Reports.{verdict_rows}
use Rattle.ws_replica.proofs.reporting.picked.Given as goal

abbrev pub invariant-loop-number : goal.invariant-loop-number
invariant-loop-number l = verdict_rows l.picked.items ≡ filter_map (slice_get (verdict_rows l.told)) (take l.number-index l.numbers)
