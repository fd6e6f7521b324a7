use Rattle.std.proofs.Common.{◌≡◌, ◌++◌, map, drop}
use Rattle.std.specs.Arc.{arc_value}
use Rattle.std.specs.List.{flat_map}
use Rattle.go_link.specs.Links.{zero_cells}
use Rattle.go_link.proofs.code.link_globals.Given as goal

abbrev pub invariant-loop-object : goal.invariant-loop-object
invariant-loop-object l = l.globals.items ++ flat_map zero_cells (map arc_value (drop l.object-index l.packages)) ≡ flat_map zero_cells (map arc_value l.packages)
