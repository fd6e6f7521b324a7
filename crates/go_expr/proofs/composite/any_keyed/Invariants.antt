use Rattle.std.proofs.Common.{◌≡◌, drop, map}
use Rattle.go_expr.specs.Rules.{any_keyed}
use Rattle.go_expr.specs.Views.{keyed_part}
use Rattle.go_expr.proofs.composite.any_keyed.Given as goal

abbrev pub invariant-loop-element : goal.invariant-loop-element
invariant-loop-element l = any_keyed (map keyed_part (drop l.element-index l.elements)) ≡ any_keyed (map keyed_part l.elements)
