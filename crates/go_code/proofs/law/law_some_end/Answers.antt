use Rattle.go_code.proofs.Ends.{meaning_some}
use Rattle.go_code.proofs.law.law_some_end.Goals as goal

pub returns : goal.returns
returns c = meaning_some
