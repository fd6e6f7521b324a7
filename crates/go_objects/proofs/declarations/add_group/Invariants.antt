use Rattle.std.proofs.Common.{◌≡◌, ◌++◌, [], None, drop, map}
use Rattle.go_ast.specs.Trees.{no_exprs}
use Rattle.go_ast.specs.Views.{const_of}
use Rattle.go_objects.specs.Objects.{in_group}
use Rattle.go_objects.specs.Views.{object_view, spec_of}
use Rattle.go_objects.proofs.declarations.add_group.Given as goal

abbrev pub invariant-loop-iota : goal.invariant-loop-iota
invariant-loop-iota l =
    map object_view l.found.items ++ in_group l.file l.iota (spec_of l.before) (map const_of (drop l.iota l.specs))
    ≡ map object_view l.fn.found.items ++ in_group l.file 0 (record { names = []; type = None; values = no_exprs }) (map const_of l.specs)
