use Rattle.go_package_laws.proofs.Completeness.Packages.{functions_known}
use Rattle.go_package_laws.proofs.complete.law_known_objects_give_trees.Goals as goal

pub returns : goal.returns
returns c = functions_known
