use Rattle.std.proofs.Common.{◌≡◌, ◌++◌, drop, map}
use Rattle.std.specs.List.{flat_map}
use Rattle.go_ast.specs.Trees.{Parameter}
use Rattle.go_ast.specs.Views.{parameter_of}
use Rattle.go_scope.specs.Names.{in_type, used}
use Rattle.go_objects.proofs.package.add_parameter_names.Given as goal

abbrev pub invariant-loop-parameter : goal.invariant-loop-parameter
invariant-loop-parameter l =
    map used l.names.items ++ flat_map (λ (p : Parameter). in_type p.type) (map parameter_of (drop l.parameter-index l.parameters))
    ≡ map used l.fn.names.items ++ flat_map (λ (p : Parameter). in_type p.type) (map parameter_of l.parameters)
