use Rattle.go_ast.proofs.Exact.{only_stop}
use Rattle.go_ast.proofs.law.law_one_stop.Goals as goal

pub returns : goal.returns
returns c = only_stop
