use Rattle.std.proofs.Common.{◌≡◌, drop}
use Rattle.std.specs.List.{list_all}
use Rattle.ws_run.proofs.Goods.{good_row}
use Rattle.ws_run.proofs.run.is_good.Given as goal

-- those so far are good
abbrev pub invariant-loop-verdict : goal.invariant-loop-verdict
invariant-loop-verdict l = list_all good_row (drop l.verdict-index l.report.directories.items) ≡ list_all good_row l.report.directories.items
