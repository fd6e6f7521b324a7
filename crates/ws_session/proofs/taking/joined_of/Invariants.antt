use Rattle.std.proofs.Common.{List, map, take}
use Rattle.ws_replica.specs.Builds.{took_at}
use Rattle.ws_replica.specs.Holdings.{Took, AllStandFor}
use Rattle.ws_session.specs.Representation.{replicas_of}
use Rattle.ws_session.proofs.taking.joined_of.Given as goal

abbrev pub invariant-loop-top : goal.invariant-loop-top
invariant-loop-top g l = (took : List Took) → AllStandFor (replicas_of l.named.items) took → AllStandFor l.members.items (map (took_at took) (take l.top-index l.tops))
