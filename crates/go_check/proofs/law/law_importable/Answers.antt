use Rattle.go_check.proofs.SameImportable.{same}
use Rattle.go_check.proofs.law.law_importable.Goals as goal

pub returns : goal.returns
returns c = same
