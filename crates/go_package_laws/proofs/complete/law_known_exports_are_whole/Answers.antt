use Rattle.go_package_laws.proofs.Completeness.Known.{known_whole}
use Rattle.go_package_laws.proofs.complete.law_known_exports_are_whole.Goals as goal

pub returns : goal.returns
returns c = known_whole
