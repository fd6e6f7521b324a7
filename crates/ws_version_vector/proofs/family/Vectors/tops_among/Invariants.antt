use Rattle.std.proofs.Common.{◌<◌, ℕ, take}
use Rattle.std.specs.List.{Contains}
use Rattle.ws_version_vector.specs.Counts.{AreBelow}
use Rattle.ws_version_vector.proofs.family.Vectors.tops_among.Given as goal

abbrev pub invariant-loop-at : goal.invariant-loop-at
invariant-loop-at l = record {
  tops : AreBelow l.self (take l.at-index l.among) l.tops.items;
  within : (t : ℕ) → Contains l.tops.items t → Contains (take l.at-index l.among) t;
}
