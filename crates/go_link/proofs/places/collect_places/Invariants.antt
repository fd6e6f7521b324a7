use Rattle.std.proofs.Common.{◌≡◌, ◌++◌, map, drop}
use Rattle.std.specs.Arc.{arc_value}
use Rattle.go_link.specs.Links.{variables}
use Rattle.go_link.specs.Named.{held_at}
use Rattle.go_link.proofs.places.collect_places.Given as goal

abbrev pub invariant-loop-object : goal.invariant-loop-object
invariant-loop-object l = map held_at l.all.items ++ variables (map arc_value (drop l.object-index l.packages)) ≡ variables (map arc_value l.packages)
