use Rattle.std.proofs.Common.{◌≡◌, drop, map}
use Rattle.std.specs.List.{flat_map}
use Rattle.go_expr.specs.Rules.{least, lesser_fault}
use Rattle.go_objects.specs.Views.{object_view}
use Rattle.go_package.specs.Faults.{object_faults}
use Rattle.go_package.specs.Views.{facts_of}
use Rattle.go_package.proofs.apart.least_of.Given as goal

abbrev pub invariant-loop-object : goal.invariant-loop-object
invariant-loop-object l =
    lesser_fault l.least (least (map (λ f. f.1) (flat_map (object_faults (facts_of l.facts)) (map object_view (drop l.object-index l.objects)))))
    ≡ least (map (λ f. f.1) (flat_map (object_faults (facts_of l.facts)) (map object_view l.objects)))
