use Rattle.std.proofs.Common.{rules}
use Rattle.go_export.specs.Summaries.{summary_digest}
use Rattle.ws_action.proofs.part.ArcSummaryPart.part_digest.Goals as goal

pub returns : goal.returns
unfolding summary_digest
returns c = search rules
