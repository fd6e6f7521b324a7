use Rattle.std.proofs.Common.{◌≡◌, ◌<◌, ℕ}
use Rattle.std.specs.List.{Contains}
use Rattle.ws_reach.specs.Reach.{rows_of}
use Rattle.go_init.specs.Condensation.{AreRooted}
use Rattle.go_init.proofs.components.roots_of.Given as goal

abbrev pub invariant-loop-root : goal.invariant-loop-root
invariant-loop-root l = record {
  size : l.met.size ≡ l.size;
  rooted : AreRooted (rows_of l.rows) l.size l.met.found l.roots.items;
  taken : (x : ℕ) → x < l.root → Contains l.met.found x;
}
