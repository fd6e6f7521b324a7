use Rattle.std.proofs.Common.{ap, ◌∙◌}
use Rattle.go_ast.specs.Views.{type_of, if_some}
use Rattle.go_objects.proofs.Pairs.{seen_option}
use Rattle.go_package.proofs.variables.by_parts.Goals as goal

pub returns-clause-of : goal.returns-clause-of
returns-clause-of c = seen_option c.as_ref.result ∙ ap (if_some type_of) c.as_ref.ensures.value
