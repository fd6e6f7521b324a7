use Rattle.std.proofs.Common.{◌↔◌, ℕ, take}
use Rattle.std.specs.List.{Contains}
use Rattle.ws_graph.specs.Discovery.{HasNumber}
use Rattle.ws_graph.proofs.target.numbers_of.Given as goal

abbrev pub invariant-loop-target : goal.invariant-loop-target
invariant-loop-target l = (k : ℕ) → Contains l.numbers.items k ↔ HasNumber (take l.target-index l.targets) k
