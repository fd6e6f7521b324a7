use Rattle.std.proofs.Common.{◌≡◌, ◌++◌, length}
use Rattle.ws_register.proofs.merge.take_all.Given as goal

abbrev pub invariant-rest : goal.invariant-rest
invariant-rest l = l.draft ++ l.rest ≡ l.fn.draft ++ l.fn.rest

abbrev pub decreases-rest : goal.decreases-rest
decreases-rest l = length l.rest
