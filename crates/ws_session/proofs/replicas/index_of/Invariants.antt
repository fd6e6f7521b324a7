use Rattle.std.proofs.Common.{◌≡◌, ◌+◌, drop}
use Rattle.std.specs.Option.{option_map}
use Rattle.ws_session.specs.Representation.{replica_index}
use Rattle.ws_session.proofs.replicas.index_of.Given as goal

-- what is left would give, counted from here, what all of it gives
abbrev pub invariant-loop-i : goal.invariant-loop-i
invariant-loop-i l = option_map (λ k. l.i + k) (replica_index l.name (drop l.i l.named)) ≡ replica_index l.name l.named
