use Rattle.go_ast.proofs.Theorem.{numbers}
use Rattle.go_ast.proofs.law.law_numbers.Goals as goal

pub returns : goal.returns
returns c = numbers
