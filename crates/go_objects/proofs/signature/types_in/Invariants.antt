use Rattle.std.proofs.Common.{◌≡◌, Some, drop, map}
use Rattle.go_ast.specs.Views.{type_of as type_tree}
use Rattle.go_types.specs.Views.{go_type}
use Rattle.go_expr.specs.Verdicts.{chained}
use Rattle.go_expr.specs.Views.{scope_of}
use Rattle.go_objects.specs.Table.{types_known}
use Rattle.go_objects.proofs.signature.types_in.Given as goal

abbrev pub invariant-loop-of : goal.invariant-loop-of
invariant-loop-of l =
    chained (Some (map go_type l.all.items)) (types_known (scope_of l.scope) (map type_tree (drop l.of-index l.types))) ≡ types_known (scope_of l.scope) (map type_tree l.types)
