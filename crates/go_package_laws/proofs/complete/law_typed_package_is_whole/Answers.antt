use Rattle.go_package_laws.proofs.Completeness.Wholes.{typed_whole}
use Rattle.go_package_laws.proofs.complete.law_typed_package_is_whole.Goals as goal

pub returns : goal.returns
returns c = typed_whole
