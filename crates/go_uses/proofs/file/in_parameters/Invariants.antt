use Rattle.std.proofs.Common.{◌≡◌, ◌++◌, drop, map}
use Rattle.std.specs.List.{flat_map}
use Rattle.go_ast.specs.Trees.{Parameter}
use Rattle.go_ast.specs.Views.{parameter_of}
use Rattle.go_scope.specs.Names.{in_type, used}
use Rattle.go_uses.proofs.file.in_parameters.Given as goal

abbrev pub invariant-loop-parameter : goal.invariant-loop-parameter
invariant-loop-parameter l =
    map used l.found.items ++ flat_map (λ (p : Parameter). in_type p.type) (map parameter_of (drop l.parameter-index l.parameters))
    ≡ flat_map (λ (p : Parameter). in_type p.type) (map parameter_of l.parameters)
