use Rattle.go_scan.proofs.Rows.{one_refusal}
use Rattle.go_scan.proofs.law.law_one_refusal.Goals as goal

pub returns : goal.returns
returns c = one_refusal
