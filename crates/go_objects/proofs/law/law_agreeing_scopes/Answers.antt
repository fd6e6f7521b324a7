use Rattle.go_objects.proofs.Agreement.{verdict_same, type_verdict_same}
use Rattle.go_objects.proofs.law.law_agreeing_scopes.Goals as goal

pub returns-clause-expressions : goal.returns-clause-expressions
returns-clause-expressions c = verdict_same

pub returns-clause-types : goal.returns-clause-types
returns-clause-types c = type_verdict_same
