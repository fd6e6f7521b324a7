use Rattle.std.proofs.Common.{◌≡◌, ◌++◌, map, drop}
use Rattle.std.specs.Arc.{arc_value}
use Rattle.go_link.specs.Links.{objects_in_order}
use Rattle.go_link.proofs.link.packages_in_order.Given as goal

abbrev pub invariant-loop-index : goal.invariant-loop-index
invariant-loop-index l = map arc_value l.packages.items ++ objects_in_order (map arc_value l.objects) (drop l.index-index l.order) ≡ objects_in_order (map arc_value l.objects) l.order
