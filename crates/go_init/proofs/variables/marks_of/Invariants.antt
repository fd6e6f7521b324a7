use Rattle.go_init.proofs.Marked.{AreMarked}
use Rattle.go_init.proofs.variables.marks_of.Given as goal

abbrev pub invariant-loop-i : goal.invariant-loop-i
invariant-loop-i l = AreMarked l.numbers l.marks.items l.count l.i
