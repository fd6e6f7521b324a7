use Rattle.std.proofs.Common.{◌≡◌, ℕ, slice_index}
use Rattle.std.specs.List.{Contains}
use Rattle.ws_reach.proofs.cycles.own_roots.Given as goal

abbrev pub invariant-loop-x : goal.invariant-loop-x
invariant-loop-x l = record {
  size : l.met.size ≡ l.size;
  own : (x : ℕ) → Contains l.met.found x → slice_index l.roots x ≡ x;
}
