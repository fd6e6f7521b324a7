use Rattle.std.proofs.Common.{take}
use Rattle.ws_replica.proofs.TargetSteps.{IsOpenedBy}
use Rattle.ws_replica.proofs.starts.opening_of.Given as goal

abbrev pub invariant-loop-number : goal.invariant-loop-number
invariant-loop-number l = IsOpenedBy l.replicas l.first (take l.number-index l.numbers) l.opening
