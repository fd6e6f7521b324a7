use Rattle.go_package_laws.proofs.Programs.{packages_typed}
use Rattle.go_package_laws.proofs.law.law_checked_packages_are_well_typed.Goals as goal

pub returns : goal.returns
returns c = packages_typed
