use Rattle.std.proofs.Common.{◌≡◌, take}
use Rattle.ws_replica.proofs.snapshot.replicas_of.Given as goal

abbrev pub invariant-loop-snapshot : goal.invariant-loop-snapshot
invariant-loop-snapshot l = l.replicas.items ≡ take l.snapshot-index l.snapshots
