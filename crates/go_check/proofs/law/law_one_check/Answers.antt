use Rattle.go_check.proofs.One.{one_typed, one_fault, not_both}
use Rattle.go_check.proofs.law.law_one_check.Goals as goal

pub returns-clause-typed : goal.returns-clause-typed
returns-clause-typed c = one_typed

pub returns-clause-fault : goal.returns-clause-fault
returns-clause-fault c = one_fault

pub returns-clause-both : goal.returns-clause-both
returns-clause-both c = not_both
