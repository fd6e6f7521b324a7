use Rattle.std.proofs.Common.{◌≡◌, length}
use Rattle.ws_reach.specs.Reach.{rows_of}
use Rattle.go_init.proofs.Waiting.{AreToRoots}
use Rattle.go_init.proofs.condensation.edges_to_roots.Given as goal

abbrev pub invariant-loop-function : goal.invariant-loop-function
invariant-loop-function l = record {
  size : length l.waits.items ≡ l.size;
  edges : AreToRoots (rows_of l.waits.items) l.roots l.function;
}
