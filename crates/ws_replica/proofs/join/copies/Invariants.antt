use Rattle.std.proofs.Common.{◌≡◌, replicate}
use Rattle.ws_replica.proofs.join.copies.Given as goal

abbrev pub invariant-loop : goal.invariant-loop
invariant-loop g l = l.copies.items ≡ replicate l.counter l.fn.joined
