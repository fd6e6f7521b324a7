use Rattle.std.proofs.Common.{◌≡◌, drop, map}
use Rattle.std.specs.List.{flat_map}
use Rattle.go_objects.specs.Views.{object_view}
use Rattle.go_package.specs.Views.{facts_of}
use Rattle.go_package.specs.Packages.{numbered_faults}
use Rattle.go_package.proofs.mutual.check_each.Given as goal

abbrev pub invariant-loop-object : goal.invariant-loop-object
invariant-loop-object l =
    flat_map (numbered_faults (facts_of l.facts)) (map object_view (drop l.object-index l.objects)) ≡ flat_map (numbered_faults (facts_of l.facts)) (map object_view l.objects)
