use Rattle.go_types.proofs.OneText.{one_text}
use Rattle.go_types.proofs.law.law_one_type.Goals as goal

pub returns : goal.returns
returns c = one_text
