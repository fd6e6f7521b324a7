use Rattle.std.proofs.Common.{◌≡◌, ◌+◌, ◌≤◌, length}
use Rattle.go_diagnostics.specs.Patterns.{enclosing}
use Rattle.go_diagnostics.proofs.pattern.enclosing.Given as goal

abbrev pub invariant-loop-rest : goal.invariant-loop-rest
invariant-loop-rest l = record {
  value : enclosing l.depth l.rest ≡ enclosing 0 l.before;
  few : l.depth + length l.rest ≤ length l.before;
}

abbrev pub decreases-loop-rest : goal.decreases-loop-rest
decreases-loop-rest l = length l.rest
