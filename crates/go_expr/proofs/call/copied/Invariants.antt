use Rattle.std.proofs.Common.{◌≡◌, ◌++◌, drop, map}
use Rattle.go_types.specs.Views.{go_type}
use Rattle.go_expr.proofs.call.copied.Given as goal

abbrev pub invariant-loop-of : goal.invariant-loop-of
invariant-loop-of l = map go_type l.all.items ++ map go_type (drop l.of-index l.types) ≡ map go_type l.types
