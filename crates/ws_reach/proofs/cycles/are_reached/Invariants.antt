use Rattle.std.proofs.Common.{◌≡◌, ◌-◌, ℕ, length, slice_index}
use Rattle.std.specs.List.{Contains}
use Rattle.ws_reach.specs.Reach.{Edge, Reaches, rows_of}
use Rattle.ws_reach.proofs.cycles.are_reached.Given as goal

abbrev pub invariant-loop-next : goal.invariant-loop-next
invariant-loop-next l = record {
  size : l.met.size ≡ length l.rows;
  reached : (x : ℕ) → Contains l.met.found x → Reaches (Edge (rows_of l.rows)) (slice_index l.roots x) x;
}

abbrev pub decreases-loop-next : goal.decreases-loop-next
decreases-loop-next l = length l.rows - l.next
