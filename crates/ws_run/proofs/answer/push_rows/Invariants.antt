use Rattle.std.proofs.Common.{◌≡◌, ◌++◌, drop}
use Rattle.std.specs.List.{flat_map}
use Rattle.ws_report.specs.Reports.{verdict_rows}
use Rattle.ws_run.specs.Printing.{folders_of, row_line}
use Rattle.ws_run.proofs.answer.push_rows.Given as goal

-- what is told so far, and what is left tells
abbrev pub invariant-loop-of : goal.invariant-loop-of
invariant-loop-of l =
    l.told.items ++ flat_map (row_line (folders_of l.folders)) (verdict_rows (drop l.of-index l.all)) ≡ l.fn.told.items ++ flat_map (row_line (folders_of l.folders)) (verdict_rows l.all)
