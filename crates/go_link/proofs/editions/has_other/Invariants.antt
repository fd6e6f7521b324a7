use Rattle.std.proofs.Common.{◌≡◌, map, drop}
use Rattle.std.specs.Arc.{arc_value}
use Rattle.std.specs.List.{list_any}
use Rattle.go_link.specs.Links.{is_of_other}
use Rattle.go_link.proofs.editions.has_other.Given as goal

abbrev pub invariant-loop-object : goal.invariant-loop-object
invariant-loop-object l = list_any (is_of_other l.edition) (map arc_value (drop l.object-index l.packages)) ≡ list_any (is_of_other l.edition) (map arc_value l.packages)
