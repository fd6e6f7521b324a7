use Rattle.std.proofs.Common.{arith}
use Rattle.std.proofs.lemmas.Grind.{common_steps}
use Rattle.go_export.specs.Summaries.{summary_text}
use Rattle.go_export.proofs.text.text_of.Goals as goal

pub returns : goal.returns
unfolding summary_text
returns c = λ edition. grind (arith, common_steps)
