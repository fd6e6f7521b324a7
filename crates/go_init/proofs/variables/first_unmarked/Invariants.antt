use Rattle.std.proofs.Common.{◌<◌, ℕ, IsTrue}
use Rattle.ws_reach.specs.Worklist.{is_marked}
use Rattle.go_init.proofs.variables.first_unmarked.Given as goal

abbrev pub invariant-loop-number : goal.invariant-loop-number
invariant-loop-number l = (k : ℕ) → k < l.number → IsTrue (is_marked l.marks k)
