use Rattle.std.proofs.Common.{map, take}
use Rattle.ws_replica.specs.Builds.{target_of}
use Rattle.ws_session.specs.Representation.{asked_of}
use Rattle.ws_session.proofs.Asked.{SoFar}
use Rattle.ws_session.proofs.replicas.targets_of.Given as goal

-- what was found of the names and directories so far
abbrev pub invariant-loop-name : goal.invariant-loop-name
invariant-loop-name l = SoFar l.named (map asked_of (take l.name-index l.asked)) l.is_text (map target_of l.targets.items)
