use Rattle.go_package.specs.Packages.{package_in}
use Rattle.go_package.proofs.OneTyped.{one_typed}
use Rattle.go_package.proofs.law.law_one_typed.Goals as goal

pub returns : goal.returns
returns c path files ps edition = one_typed (package_in edition path files ps) files ps edition
