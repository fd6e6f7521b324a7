use Rattle.std.proofs.Common.{◌≡◌, map, take}
use Rattle.ws_replica.proofs.starts.numbers_of.Given as goal

abbrev pub invariant-loop-target : goal.invariant-loop-target
invariant-loop-target l = l.numbers.items ≡ map (λ t. t.replica) (take l.target-index l.targets)
