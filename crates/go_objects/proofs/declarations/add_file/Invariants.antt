use Rattle.std.proofs.Common.{◌≡◌, ◌++◌, drop, map}
use Rattle.std.specs.List.{flat_map}
use Rattle.go_ast.specs.Views.{top_of}
use Rattle.go_objects.specs.Objects.{objects_in}
use Rattle.go_objects.specs.Views.{object_view}
use Rattle.go_objects.proofs.declarations.add_file.Given as goal

abbrev pub invariant-loop-top : goal.invariant-loop-top
invariant-loop-top l =
    map object_view l.found.items ++ flat_map (objects_in l.number) (map top_of (drop l.top-index l.top-items))
    ≡ map object_view l.fn.found.items ++ flat_map (objects_in l.number) (map top_of l.top-items)
