use Rattle.std.proofs.Common.{◌≡◌, drop, map}
use Rattle.go_expr.specs.Rules.{all_keyed}
use Rattle.go_expr.specs.Views.{keyed_part}
use Rattle.go_expr.proofs.composite.all_keyed.Given as goal

abbrev pub invariant-loop-element : goal.invariant-loop-element
invariant-loop-element l = all_keyed (map keyed_part (drop l.element-index l.elements)) ≡ all_keyed (map keyed_part l.elements)
