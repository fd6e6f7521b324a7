use Rattle.std.proofs.Common.{◌≡◌, ◌<◌, ℕ, length}
use Rattle.ws_reach.specs.Reach.{Edge, rows_of}
use Rattle.ws_reach.specs.Components.{AreAlike}
use Rattle.ws_reach.proofs.cycles.edges_within.Given as goal

abbrev pub invariant-loop-p : goal.invariant-loop-p
invariant-loop-p l = record {
  size : length l.turned.items ≡ length l.rows;
  from : (q x : ℕ) → Edge (rows_of l.turned.items) q x → Edge (rows_of l.rows) x q × AreAlike l.roots x q;
  taken : (q x : ℕ) → x < l.p → Edge (rows_of l.rows) x q → AreAlike l.roots x q → Edge (rows_of l.turned.items) q x;
}
