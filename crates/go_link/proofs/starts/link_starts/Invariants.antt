use Rattle.std.proofs.Common.{◌≡◌, ◌++◌, map, drop}
use Rattle.std.specs.Arc.{arc_value}
use Rattle.std.specs.List.{flat_map}
use Rattle.go_link.specs.Links.{package_starts}
use Rattle.go_link.proofs.starts.link_starts.Given as goal

abbrev pub invariant-loop-object : goal.invariant-loop-object
invariant-loop-object l =
    l.starts.items ++ flat_map (package_starts l.names l.places) (map arc_value (drop l.object-index l.packages))
    ≡ flat_map (package_starts l.names l.places) (map arc_value l.packages)
