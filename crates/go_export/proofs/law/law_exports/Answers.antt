use Rattle.go_export.proofs.Found.{ascends, found, shown}
use Rattle.go_export.proofs.law.law_exports.Goals as goal

pub returns-clause-ordered : goal.returns-clause-ordered
returns-clause-ordered c = ascends

pub returns-clause-found : goal.returns-clause-found
returns-clause-found c = found

pub returns-clause-shown : goal.returns-clause-shown
returns-clause-shown c = shown
