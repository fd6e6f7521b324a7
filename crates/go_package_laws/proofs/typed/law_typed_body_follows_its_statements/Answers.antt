use Rattle.go_package_laws.proofs.Completeness.TypedForms.{function_has}
use Rattle.go_package_laws.proofs.typed.law_typed_body_follows_its_statements.Goals as goal

pub returns : goal.returns
returns c = function_has
