use Rattle.go_package_laws.proofs.Completeness.Known.{objects_known}
use Rattle.go_package_laws.proofs.complete.law_faultless_package_is_known.Goals as goal

pub returns : goal.returns
returns c = objects_known
