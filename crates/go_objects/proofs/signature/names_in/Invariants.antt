use Rattle.std.proofs.Common.{◌≡◌, ◌++◌, drop, map}
use Rattle.go_ast.specs.Views.{parameter_of}
use Rattle.go_objects.specs.Table.{parameter_names}
use Rattle.go_objects.proofs.signature.names_in.Given as goal

abbrev pub invariant-loop-parameter : goal.invariant-loop-parameter
invariant-loop-parameter l =
    map (λ n. n.now) l.all.items ++ parameter_names (map parameter_of (drop l.parameter-index l.parameters)) ≡ parameter_names (map parameter_of l.parameters)
