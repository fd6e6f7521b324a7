use Rattle.go_link.proofs.Found.{declared_found}
use Rattle.go_link.proofs.law.law_functions_are_found.Goals as goal

pub returns : goal.returns
returns c = declared_found
