use Rattle.go_package.specs.Packages.{package_in}
use Rattle.go_package.proofs.OneFault.{one_fault}
use Rattle.go_package.proofs.law.law_one_fault.Goals as goal

pub returns : goal.returns
returns c edition path files ps = one_fault (package_in edition path files ps) files ps
