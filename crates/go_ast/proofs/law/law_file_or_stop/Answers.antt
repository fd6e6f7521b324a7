use Rattle.std.proofs.Common.{arith}
use Rattle.go_ast.proofs.Theorem.{file_or_stop}
use Rattle.go_ast.proofs.law.law_file_or_stop.Goals as goal

pub returns : goal.returns
returns c = λ e ts. file_or_stop e 250 ts (omega arith)
