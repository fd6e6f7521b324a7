use Rattle.std.proofs.Common.{◌≡◌, ◌++◌, drop, map}
use Rattle.go_objects.specs.Objects.{other_object, unpaired}
use Rattle.go_objects.specs.Views.{object_view, spec_of}
use Rattle.go_objects.proofs.declarations.add_unpaired.Given as goal

abbrev pub invariant-loop-name : goal.invariant-loop-name
invariant-loop-name l =
    map object_view l.found.items ++ map (other_object l.file l.spec.names.now (spec_of l.spec).type (spec_of l.spec).values) (drop l.name-index l.spec.names.now)
    ≡ map object_view l.fn.found.items ++ unpaired l.file (spec_of l.spec).type (spec_of l.spec).values l.spec.names.now
