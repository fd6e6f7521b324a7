use Rattle.go_package_laws.proofs.Completeness.Functions.{function_known}
use Rattle.go_package_laws.proofs.complete.law_faultless_function_is_known.Goals as goal

pub returns : goal.returns
returns c = function_known
