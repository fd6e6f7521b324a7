use Rattle.go_scan.proofs.Rows.{not_both}
use Rattle.go_scan.proofs.law.law_not_both.Goals as goal

pub returns : goal.returns
returns c = not_both
