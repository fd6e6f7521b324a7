use Rattle.std.proofs.Common.{length}
use Rattle.std.specs.List.{Contains}
use Rattle.ws_map.proofs.next_at.Given as goal

-- what is left is among what was
abbrev pub invariant-rest : goal.invariant-rest
invariant-rest g l = (e : _) → Contains l.rest e → Contains l.fn.rest e

abbrev pub decreases-rest : goal.decreases-rest
decreases-rest g l = length l.rest
