use Rattle.go_check.proofs.Some.{some_check}
use Rattle.go_check.proofs.law.law_some_check.Goals as goal

pub returns : goal.returns
returns c = some_check
