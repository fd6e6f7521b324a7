use Rattle.go_init.proofs.VariableOrders.{behind_it, circles, each_once}
use Rattle.go_init.proofs.law.law_variable_order.Goals as goal

pub returns-clause-each : goal.returns-clause-each
returns-clause-each c = each_once

pub returns-clause-behind : goal.returns-clause-behind
returns-clause-behind c = behind_it

pub returns-clause-circles : goal.returns-clause-circles
returns-clause-circles c = circles
