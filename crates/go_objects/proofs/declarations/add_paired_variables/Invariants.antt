use Rattle.std.proofs.Common.{◌≡◌, ◌++◌, drop, map, length}
use Rattle.go_objects.specs.Objects.{valued_object}
use Rattle.go_objects.specs.Views.{object_view}
use Rattle.go_objects.proofs.Pairs.{pairs}
use Rattle.go_objects.proofs.declarations.add_paired_variables.Given as goal

abbrev pub invariant-loop-name : goal.invariant-loop-name
invariant-loop-name l =
    map object_view l.found.items ++ pairs (valued_object l.file l.names) (drop (length l.yielded) l.names) (drop (length l.yielded) l.values)
    ≡ map object_view l.fn.found.items ++ pairs (valued_object l.file l.names) l.names l.values
