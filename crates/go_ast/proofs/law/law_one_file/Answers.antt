use Rattle.go_ast.proofs.Theorem.{one_file}
use Rattle.go_ast.proofs.law.law_one_file.Goals as goal

pub returns : goal.returns
returns c = one_file
