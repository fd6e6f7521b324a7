use Rattle.std.proofs.Common.{◌≡◌, ◌<◌, ◌↔◌, ℕ, IsTrue, length}
use Rattle.ws_reach.specs.Reach.{rows_of}
use Rattle.ws_reach.specs.Worklist.{is_marked}
use Rattle.go_scope.specs.Order.{DependsOnItself}
use Rattle.go_package.proofs.facts.recursive_in.Given as goal

abbrev pub invariant-loop-number : goal.invariant-loop-number
invariant-loop-number l = record {
  size : length l.recursive.items ≡ l.number;
  marks : (k : ℕ) → k < l.number → IsTrue (is_marked l.recursive.items k) ↔ DependsOnItself (rows_of l.rows) k;
}
