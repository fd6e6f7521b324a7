use Rattle.std.proofs.Common.{◌≡◌, ◌++◌, drop, map}
use Rattle.std.specs.List.{flat_map}
use Rattle.go_ast.specs.Views.{var_of}
use Rattle.go_objects.specs.Objects.{variables_of}
use Rattle.go_objects.specs.Views.{object_view}
use Rattle.go_objects.proofs.declarations.add_all_variables.Given as goal

abbrev pub invariant-loop-spec : goal.invariant-loop-spec
invariant-loop-spec l =
    map object_view l.found.items ++ flat_map (variables_of l.file) (map var_of (drop l.spec-index l.specs))
    ≡ map object_view l.fn.found.items ++ flat_map (variables_of l.file) (map var_of l.specs)
