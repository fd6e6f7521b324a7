use Rattle.go_init.proofs.VariablesAmong.{AreFound}
use Rattle.go_init.proofs.order.variables_among.Given as goal

abbrev pub invariant-loop-i : goal.invariant-loop-i
invariant-loop-i l = AreFound l.functions l.numbers l.variables.items l.i
