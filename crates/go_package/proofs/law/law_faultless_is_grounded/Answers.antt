use Rattle.go_package.proofs.Faultless.{faultless_grounded}
use Rattle.go_package.proofs.law.law_faultless_is_grounded.Goals as goal

pub returns : goal.returns
returns c = faultless_grounded
