use Rattle.ws_reach.proofs.Reached.{contains_get}
use Rattle.go_package_laws.proofs.Shown.{checked_shown}
use Rattle.go_package_laws.proofs.law.law_checked_packages_are_shown.Goals as goal

pub returns : goal.returns
returns c packages p checked plain there = checked_shown packages checked plain there.0 p (contains_get packages p there)
