use Rattle.std.proofs.Common.{◌≡◌, ◌++◌, drop, map}
use Rattle.go_ast.specs.Views.{type_of}
use Rattle.go_objects.specs.Objects.{typed_object}
use Rattle.go_objects.specs.Views.{object_view}
use Rattle.go_objects.proofs.declarations.add_typed_variables.Given as goal

abbrev pub invariant-loop-name : goal.invariant-loop-name
invariant-loop-name l =
    map object_view l.found.items ++ map (typed_object l.file l.names (type_of l.type_expr)) (drop l.name-index l.names)
    ≡ map object_view l.fn.found.items ++ map (typed_object l.file l.names (type_of l.type_expr)) l.names
