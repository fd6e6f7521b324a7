use Rattle.go_scope.proofs.Laws.{not_grounded}
use Rattle.go_scope.proofs.order.law_not_both.Goals as goal

pub returns : goal.returns
returns c = not_grounded
