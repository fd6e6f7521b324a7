use Rattle.std.proofs.Common.{◌≡◌, ◌-◌, length}
use Rattle.ws_reach.specs.Reach.{Edge, rows_of}
use Rattle.ws_reach.proofs.Reached.{Walked}
use Rattle.ws_reach.proofs.walks.walk.Given as goal

abbrev pub invariant-loop-next : goal.invariant-loop-next
invariant-loop-next l = record {
  size : l.met.size ≡ length l.rows;
  walked : Walked (Edge (rows_of l.rows)) l.start l.next l.met.found;
}

abbrev pub decreases-loop-next : goal.decreases-loop-next
decreases-loop-next l = length l.rows - l.next
