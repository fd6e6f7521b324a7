use Rattle.go_scan.proofs.Rows.{list_or_refusal}
use Rattle.go_scan.proofs.law.law_list_or_refusal.Goals as goal

pub returns : goal.returns
returns c = list_or_refusal
