use Rattle.std.proofs.Common.{◌≡◌, ◌<◌, ℕ, true}
use Rattle.ws_reach.specs.Worklist.{is_marked}
use Rattle.ws_reach.proofs.worklists.are_all.Given as goal

abbrev pub invariant-loop-i : goal.invariant-loop-i
invariant-loop-i l = (k : ℕ) → k < l.i → is_marked l.marks k ≡ true
