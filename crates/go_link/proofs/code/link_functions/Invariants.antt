use Rattle.std.proofs.Common.{◌≡◌, ◌++◌, map, drop}
use Rattle.std.specs.Arc.{arc_value}
use Rattle.std.specs.List.{flat_map}
use Rattle.go_link.specs.Links.{linked_function}
use Rattle.go_link.proofs.code.link_functions.Given as goal

abbrev pub invariant-loop-object : goal.invariant-loop-object
invariant-loop-object l =
    l.linked.items ++ flat_map (λ o. map (linked_function l.names l.places) o.functions) (map arc_value (drop l.object-index l.packages))
    ≡ flat_map (λ o. map (linked_function l.names l.places) o.functions) (map arc_value l.packages)
