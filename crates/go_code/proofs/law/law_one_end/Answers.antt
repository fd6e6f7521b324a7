use Rattle.go_code.proofs.Steps.{meaning_once}
use Rattle.go_code.proofs.law.law_one_end.Goals as goal

pub returns : goal.returns
returns c = meaning_once
