use Rattle.std.proofs.Common.{◌≡◌, ◌++◌, drop, map}
use Rattle.std.specs.List.{flat_map}
use Rattle.ws_command.specs.Printing.{row_text}
use Rattle.ws_report.specs.Reports.{row}
use Rattle.ws_command.proofs.printing.push_rows.Given as goal

abbrev pub invariant-loop-of : goal.invariant-loop-of
invariant-loop-of l = l.out.items ++ flat_map row_text (map row (drop l.of-index l.all)) ≡ l.fn.out.items ++ flat_map row_text (map row l.all)
