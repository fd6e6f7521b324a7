use Rattle.std.proofs.Common.{◌≡◌, ◌++◌, drop, map}
use Rattle.go_typed.specs.Views.{variable_of}
use Rattle.go_expr.specs.Views.{names_of}
use Rattle.go_objects.specs.Views.{object_view}
use Rattle.go_package.specs.Typed.{variables_in}
use Rattle.go_package.proofs.names.variables_in.Given as goal

abbrev pub invariant-loop-object : goal.invariant-loop-object
invariant-loop-object l =
    map variable_of l.found.items ++ variables_in (map (λ f. f.now) l.files) (names_of l.known) (map object_view (drop l.object-index l.objects))
    ≡ variables_in (map (λ f. f.now) l.files) (names_of l.known) (map object_view l.objects)
