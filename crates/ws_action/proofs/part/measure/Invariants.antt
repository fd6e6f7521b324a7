use Rattle.std.proofs.Common.{ℕ, ◌<◌, ◌^◌, length, slice_index_or}
use Rattle.ws_action.proofs.part.measure.Given as goal

-- the names that were read
abbrev pub invariant-loop-part : goal.invariant-loop-part
invariant-loop-part g l = (k : ℕ) (d : _) → k < l.part-index → length (g.P.Part.named (slice_index_or l.parts k d)).0 < 2 ^ 64
