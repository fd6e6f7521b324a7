use Rattle.go_ast.proofs.Exact.{not_both}
use Rattle.go_ast.proofs.law.law_not_both.Goals as goal

pub returns : goal.returns
returns c = not_both
