use Rattle.std.proofs.Common.{◌≡◌, ◌<◌, ◌*◌, ◌-◌, true, false, get_or}
use Rattle.ws_board.proofs.Trees.{Leads}
use Rattle.ws_board.proofs.flags.first_below.Given as goal

abbrev pub invariant-loop-node : goal.invariant-loop-node
invariant-loop-node l = record {
  some : 0 < l.node;
  inside : l.node < 2 * l.inner;
  stands : get_or l.tree l.node false ≡ true;
  leads : Leads l.inner l.tree l.node;
}

abbrev pub decreases-loop-node : goal.decreases-loop-node
decreases-loop-node l = 2 * l.inner - l.node
