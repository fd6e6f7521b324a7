use Rattle.go_init.proofs.Orders.{below, once, behind, circles, ranked, last}
use Rattle.go_init.proofs.law.law_package_order.Goals as goal

pub returns-clause-below : goal.returns-clause-below
returns-clause-below c = below

pub returns-clause-once : goal.returns-clause-once
returns-clause-once c = once

pub returns-clause-behind : goal.returns-clause-behind
returns-clause-behind c = behind

pub returns-clause-circles : goal.returns-clause-circles
returns-clause-circles c = circles

pub returns-clause-ranked : goal.returns-clause-ranked
returns-clause-ranked c = ranked

pub returns-clause-last : goal.returns-clause-last
returns-clause-last c = last
