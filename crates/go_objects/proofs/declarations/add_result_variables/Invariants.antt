use Rattle.std.proofs.Common.{◌≡◌, ◌++◌, drop, map}
use Rattle.go_ast.specs.Views.{expr_of}
use Rattle.go_objects.specs.Objects.{result_objects}
use Rattle.go_objects.specs.Views.{object_view}
use Rattle.go_objects.proofs.declarations.add_result_variables.Given as goal

abbrev pub invariant-loop-number : goal.invariant-loop-number
invariant-loop-number l =
    map object_view l.found.items ++ result_objects l.file l.names l.number (expr_of l.value) (drop l.number l.names)
    ≡ map object_view l.fn.found.items ++ result_objects l.file l.names 0 (expr_of l.value) l.names
