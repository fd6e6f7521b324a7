use Rattle.go_package.proofs.SomeFacts.{some_facts}
use Rattle.go_package.proofs.law.law_some_facts.Goals as goal

pub returns : goal.returns
returns c = some_facts
