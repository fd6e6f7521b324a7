use Rattle.go_package.proofs.Within.{fault_within}
use Rattle.go_package.proofs.law.law_fault_within.Goals as goal

pub returns : goal.returns
returns c = fault_within
