use Rattle.std.proofs.Common.{◌≡◌, ◌-◌}
use Rattle.ws_reach.specs.Reach.{rows_of}
use Rattle.go_init.proofs.Rooted.{Rooting}
use Rattle.go_init.proofs.components.take_root.Given as goal

abbrev pub invariant-loop-next : goal.invariant-loop-next
invariant-loop-next l = record {
  size : l.met.size ≡ l.fn.met.size;
  rooting : Rooting (rows_of l.rows) l.fn.met.size l.root l.fn.met.found l.fn.roots.items l.met.found l.roots.items l.next;
}

abbrev pub decreases-loop-next : goal.decreases-loop-next
decreases-loop-next l = l.fn.met.size - l.next
