use Rattle.std.proofs.Common.{◌≡◌, ◌<◌, ℕ, Some}
use Rattle.std.specs.List.{slice_get, Contains}
use Rattle.ws_reach.specs.Reach.{Edge, rows_of}
use Rattle.ws_reach.proofs.cycles.closing_at.Given as goal

abbrev pub invariant-loop-i : goal.invariant-loop-i
invariant-loop-i l = record {
  from : (p : ℕ) → Contains l.row.items p → Contains l.found.items p × Edge (rows_of l.rows) p l.q;
  taken : (k p : ℕ) → k < l.i → slice_get l.found.items k ≡ Some p → Edge (rows_of l.rows) p l.q → Contains l.row.items p;
}
