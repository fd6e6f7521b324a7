use Rattle.go_init.proofs.Behind.{Behind}
use Rattle.go_init.proofs.components.nodes_behind.Given as goal

abbrev pub invariant-loop-i : goal.invariant-loop-i
invariant-loop-i l = Behind l.row l.behind.items l.count l.i
