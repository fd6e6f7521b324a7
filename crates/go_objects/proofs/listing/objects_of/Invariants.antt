use Rattle.std.proofs.Common.{◌≡◌, ◌++◌, map}
use Rattle.std.specs.Vec.Iter.{into_iter_items}
use Rattle.go_ast.specs.Views.{file_of}
use Rattle.go_objects.specs.Objects.{firsts, objects_of}
use Rattle.go_objects.specs.Views.{object_view}
use Rattle.go_objects.specs.Numbers.{Numbered}
use Rattle.go_objects.proofs.listing.objects_of.Given as goal

abbrev pub invariant-loop-object : goal.invariant-loop-object
invariant-loop-object l = record {
  numbered : Numbered (map (λ n. n.now) l.names.keys) (map object_view l.list.items);
  firsts : map object_view l.list.items ++ firsts (map (λ n. n.now) l.names.keys) (map object_view (into_iter_items l.object-iterator)) ≡ objects_of (map (λ f. file_of f.now) l.fn.files);
}
