use Rattle.std.proofs.Common.{drop, map}
use Rattle.go_scope.proofs.Indexes.{Differing}
use Rattle.go_expr.specs.Rules.{keys}
use Rattle.go_expr.specs.Views.{keyed_part}
use Rattle.go_expr.proofs.composite.keys_differ.Given as goal

abbrev pub invariant-loop-element : goal.invariant-loop-element
invariant-loop-element l = Differing l.names (keys (map keyed_part (drop l.element-index l.elements))) (keys (map keyed_part l.elements))
