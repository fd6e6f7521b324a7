use Rattle.std.proofs.Common.{◌≡◌}
use Rattle.ws_replica.proofs.actions.remember_all.Given as goal

abbrev pub invariant-loop-number : goal.invariant-loop-number
invariant-loop-number l = l.replicas ≡ l.fn.replicas
