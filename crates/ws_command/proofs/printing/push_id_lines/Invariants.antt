use Rattle.std.proofs.Common.{◌≡◌, ◌++◌, drop, map}
use Rattle.std.specs.List.{flat_map}
use Rattle.ws_command.specs.IdsPrinting.{id_text}
use Rattle.ws_report.specs.Reports.{id_row}
use Rattle.ws_command.proofs.printing.push_id_lines.Given as goal

abbrev pub invariant-loop-line : goal.invariant-loop-line
invariant-loop-line l = l.out.items ++ flat_map id_text (map id_row (drop l.line-index l.lines)) ≡ l.fn.out.items ++ flat_map id_text (map id_row l.lines)
