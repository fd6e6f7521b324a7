use Rattle.std.proofs.Common.{◌≡◌, ◌+◌, ℕ, length}
use Rattle.ws_version_vector.specs.Counts.{count_at}
use Rattle.ws_version_vector.proofs.vector.extend.Given as goal

abbrev pub invariant-loop : goal.invariant-loop
invariant-loop l = record {
  same : (j : ℕ) → count_at j l.counts.items ≡ count_at j l.fn.counts.items;
  long : length l.counts.items ≡ length l.fn.counts.items + 1 + l.counter;
}
