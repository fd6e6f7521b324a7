use Rattle.std.proofs.Common.{◌≡◌, ◌/◌, ◌≤◌, ◌<◌, ℕ, length, drop}
use Rattle.std.proofs.Math.ListN.{set}
use Rattle.ws_board.specs.Flags.{SaysBelow}
use Rattle.ws_board.proofs.flags.write.Given as goal

abbrev pub invariant-loop-node : goal.invariant-loop-node
invariant-loop-node l = record {
  count : length l.tree.items ≡ length l.fn.tree.items;
  some : 0 < l.node;
  low : l.node ≤ l.leaf;
  flags : drop l.inner l.tree.items ≡ drop l.inner (set l.fn.tree.items l.leaf l.flag);
  each : (node : ℕ) → 0 < node → node < l.inner → (node ≡ l.node / 2 → ⊥) → SaysBelow l.tree.items node;
}

abbrev pub decreases-loop-node : goal.decreases-loop-node
decreases-loop-node l = l.node
