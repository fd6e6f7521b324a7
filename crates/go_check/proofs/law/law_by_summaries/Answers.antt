use Rattle.go_check.proofs.BySummaries.{typed_by, fault_by}
use Rattle.go_check.proofs.law.law_by_summaries.Goals as goal

pub returns-clause-typed : goal.returns-clause-typed
returns-clause-typed c = typed_by

pub returns-clause-fault : goal.returns-clause-fault
returns-clause-fault c = fault_by
