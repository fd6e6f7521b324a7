use Rattle.go_export.proofs.OneSummary.{one_summary}
use Rattle.go_export.proofs.law.law_one_summary.Goals as goal

pub returns : goal.returns
returns c = one_summary
