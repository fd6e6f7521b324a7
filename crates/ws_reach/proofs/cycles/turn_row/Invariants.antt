use Rattle.std.proofs.Common.{◌≡◌, ◌<◌, ◌⊎◌, ℕ, length, Some}
use Rattle.std.specs.List.{slice_get, Contains}
use Rattle.ws_reach.specs.Reach.{Edge, rows_of}
use Rattle.ws_reach.specs.Components.{AreAlike}
use Rattle.ws_reach.proofs.cycles.turn_row.Given as goal

abbrev pub invariant-loop-i : goal.invariant-loop-i
invariant-loop-i l = record {
  size : length l.turned.items ≡ length l.fn.turned.items;
  stay : (q x : ℕ) → Edge (rows_of l.fn.turned.items) q x → Edge (rows_of l.turned.items) q x;
  taken : (k q : ℕ) → k < l.i → slice_get l.row k ≡ Some q → AreAlike l.roots l.p q → Edge (rows_of l.turned.items) q l.p;
  from : (q x : ℕ) → Edge (rows_of l.turned.items) q x → Edge (rows_of l.fn.turned.items) q x ⊎ ((x ≡ l.p) × Contains l.row q × AreAlike l.roots l.p q);
}
