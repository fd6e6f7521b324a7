use Rattle.std.proofs.Common.{◌≡◌, ◌++◌, drop, map}
use Rattle.go_ast.specs.Views.{type_spec_of}
use Rattle.go_objects.specs.Objects.{type_object}
use Rattle.go_objects.specs.Views.{object_view}
use Rattle.go_objects.proofs.declarations.add_types.Given as goal

abbrev pub invariant-loop-spec : goal.invariant-loop-spec
invariant-loop-spec l =
    map object_view l.found.items ++ map (type_object l.file) (map type_spec_of (drop l.spec-index l.specs))
    ≡ map object_view l.fn.found.items ++ map (type_object l.file) (map type_spec_of l.specs)
