use Rattle.go_ast.proofs.Exists.{parse_exists}
use Rattle.go_ast.proofs.law.law_some_parse.Goals as goal

pub returns : goal.returns
returns c = parse_exists
