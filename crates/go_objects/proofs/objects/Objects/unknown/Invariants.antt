use Rattle.std.proofs.Common.{◌≡◌, map, take}
use Rattle.go_expr.specs.Views.{names_of}
use Rattle.go_objects.specs.Views.{object_view}
use Rattle.go_objects.proofs.Filling.{unknown_entry}
use Rattle.go_objects.proofs.objects.Objects.unknown.Given as goal

abbrev pub invariant-loop-object : goal.invariant-loop-object
invariant-loop-object l = names_of l.known ≡ map unknown_entry (map object_view (take l.object-index l.object-items))
