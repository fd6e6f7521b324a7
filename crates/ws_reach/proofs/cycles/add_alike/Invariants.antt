use Rattle.std.proofs.Common.{◌≡◌, ◌⊎◌, ℕ}
use Rattle.std.specs.List.{Contains}
use Rattle.ws_reach.specs.Components.{AreAlike}
use Rattle.ws_reach.proofs.cycles.add_alike.Given as goal

abbrev pub invariant-loop-i : goal.invariant-loop-i
invariant-loop-i l = record {
  size : l.met.size ≡ l.fn.met.size;
  from : (x : ℕ) → Contains l.met.found x → Contains l.fn.met.found x ⊎ (Contains l.row x × AreAlike l.roots l.here x);
}
