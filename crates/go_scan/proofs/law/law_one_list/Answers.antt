use Rattle.go_scan.proofs.Rows.{one_list}
use Rattle.go_scan.proofs.law.law_one_list.Goals as goal

pub returns : goal.returns
returns c = one_list
