use Rattle.go_package.specs.Packages.{package_in}
use Rattle.go_package.proofs.SomeFacts.{some_fault}
use Rattle.go_package.proofs.law.law_some_fault.Goals as goal

pub returns : goal.returns
returns c path files ps edition = some_fault (package_in edition path files ps) files ps edition
