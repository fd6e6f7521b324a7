use Rattle.go_package.specs.Packages.{package_in}
use Rattle.go_package.proofs.SomeFacts.{fault_or_typed, typed_faultless}
use Rattle.go_package.proofs.law.law_fault_or_typed.Goals as goal

pub returns-clause-either : goal.returns-clause-either
returns-clause-either c path files ps edition = fault_or_typed (package_in edition path files ps) files ps edition

pub returns-clause-faultless : goal.returns-clause-faultless
returns-clause-faultless c path files ps edition = typed_faultless (package_in edition path files ps) files ps edition
