use Rattle.std.proofs.Common.{◌≡◌, ◌+◌, ℕ, length}
use Rattle.ws_version_vector.specs.Keyed.{log_at}
use Rattle.ws_version_vector.proofs.logs.Logs.extend.Given as goal

abbrev pub invariant-loop : goal.invariant-loop
invariant-loop l = record {
  same : (j : ℕ) → log_at j l.self-inside.all.items ≡ log_at j l.fn.self;
  long : length l.self-inside.all.items ≡ length l.fn.self + 1 + l.counter;
}
