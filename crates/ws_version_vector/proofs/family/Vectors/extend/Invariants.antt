use Rattle.std.proofs.Common.{◌≡◌, ◌+◌, ℕ, length}
use Rattle.ws_version_vector.specs.Counts.{counts_at}
use Rattle.ws_version_vector.proofs.family.Vectors.extend.Given as goal

abbrev pub invariant-loop : goal.invariant-loop
invariant-loop l = record {
  same : (j : ℕ) → counts_at j l.self-inside.all.items ≡ counts_at j l.fn.self;
  long : length l.self-inside.all.items ≡ length l.fn.self + 1 + l.counter;
}
