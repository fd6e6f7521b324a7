use Rattle.std.proofs.Common.{◌<◌, ℕ}
use Rattle.std.specs.List.{Contains}
use Rattle.ws_version_vector.specs.Counts.{AreMaximal}
use Rattle.ws_version_vector.proofs.family.Vectors.maximal.Given as goal

abbrev pub invariant-loop-at : goal.invariant-loop-at
invariant-loop-at l = record {
  tops : AreMaximal l.self l.at l.tops.items;
  within : (t : ℕ) → Contains l.tops.items t → t < l.at;
}
