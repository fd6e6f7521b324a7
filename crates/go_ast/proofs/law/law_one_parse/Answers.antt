use Rattle.go_ast.proofs.Once.{one_parse}
use Rattle.go_ast.proofs.law.law_one_parse.Goals as goal

pub returns : goal.returns
returns c = one_parse
