use Rattle.std.proofs.Common.{◌≡◌, ◌≤◌, ◌+◌, drop, map, count_by}
use Rattle.ws_command.specs.Printing.{is_bad}
use Rattle.ws_report.specs.Reports.{row}
use Rattle.ws_command.proofs.printing.count_bad.Given as goal

abbrev pub invariant-loop-of : goal.invariant-loop-of
invariant-loop-of l = record {
  counted : l.count + count_by is_bad (map row (drop l.of-index l.all)) ≡ count_by is_bad (map row l.all);
  within : l.count ≤ l.of-index;
}
