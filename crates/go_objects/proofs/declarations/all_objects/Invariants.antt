use Rattle.std.proofs.Common.{◌≡◌, ◌++◌, drop, map}
use Rattle.go_ast.specs.Views.{file_of}
use Rattle.go_objects.specs.Objects.{objects_from}
use Rattle.go_objects.specs.Views.{object_view}
use Rattle.go_objects.proofs.declarations.all_objects.Given as goal

abbrev pub invariant-loop-number : goal.invariant-loop-number
invariant-loop-number l =
    map object_view l.found.items ++ objects_from l.number (map (λ f. file_of f.now) (drop l.number l.files)) ≡ objects_from 0 (map (λ f. file_of f.now) l.files)
