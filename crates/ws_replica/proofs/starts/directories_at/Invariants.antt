use Rattle.std.proofs.Common.{◌≡◌, map, take}
use Rattle.ws_graph.specs.Discovery.{string_texts}
use Rattle.ws_replica.specs.Builds.{target_of}
use Rattle.ws_replica.specs.Targets.{directories_at}
use Rattle.ws_replica.proofs.starts.directories_at.Given as goal

abbrev pub invariant-loop-target : goal.invariant-loop-target
invariant-loop-target l = string_texts l.directories.items ≡ directories_at (map target_of (take l.target-index l.targets)) l.number
