use Rattle.std.proofs.Common.{◌≡◌, ℕ, length}
use Rattle.ws_reach.specs.Reach.{Edge, rows_of}
use Rattle.go_init.proofs.condensation.empty_rows.Given as goal

abbrev pub invariant-loop : goal.invariant-loop
invariant-loop l = record {
  size : length l.rows.items ≡ l.counter;
  none : (p q : ℕ) → ¬ (Edge (rows_of l.rows.items) p q);
}
