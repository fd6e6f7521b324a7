use Rattle.std.proofs.Common.{◌≡◌, Some, drop, map}
use Rattle.go_ast.specs.Views.{parameter_of}
use Rattle.go_types.specs.Views.{go_type}
use Rattle.go_expr.specs.Verdicts.{chained}
use Rattle.go_expr.specs.Views.{scope_of}
use Rattle.go_objects.specs.Table.{parameters_known}
use Rattle.go_objects.proofs.signature.parameters_in.Given as goal

abbrev pub invariant-loop-parameter : goal.invariant-loop-parameter
invariant-loop-parameter l =
    chained (Some (map go_type l.all.items)) (parameters_known (scope_of l.scope) (map parameter_of (drop l.parameter-index l.parameters)))
    ≡ parameters_known (scope_of l.scope) (map parameter_of l.parameters)
