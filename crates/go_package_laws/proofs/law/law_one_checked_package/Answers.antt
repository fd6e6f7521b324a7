use Rattle.go_package_laws.proofs.Meant.{alone, last}
use Rattle.go_package_laws.proofs.law.law_one_checked_package.Goals as goal

pub returns : goal.returns
returns c path files ps names p libraries it = (alone path files ps names p libraries it, last path files ps names p libraries it)
