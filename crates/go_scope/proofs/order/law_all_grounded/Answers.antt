use Rattle.go_scope.proofs.Laws.{all_grounded}
use Rattle.go_scope.proofs.order.law_all_grounded.Goals as goal

pub returns : goal.returns
returns c = all_grounded
