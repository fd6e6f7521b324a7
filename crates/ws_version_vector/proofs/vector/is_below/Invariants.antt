use Rattle.std.proofs.Common.{◌<◌, ◌≤◌, ℕ}
use Rattle.ws_version_vector.specs.Counts.{count_at}
use Rattle.ws_version_vector.proofs.vector.is_below.Given as goal

abbrev pub invariant-loop-i : goal.invariant-loop-i
invariant-loop-i l = (j : ℕ) → j < l.i → count_at j l.counts ≤ count_at j l.others
