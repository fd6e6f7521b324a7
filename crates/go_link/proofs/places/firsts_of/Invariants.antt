use Rattle.std.proofs.Common.{◌≡◌, map, take}
use Rattle.go_link.specs.Named.{Firsts, cell_count, held_at}
use Rattle.go_link.proofs.places.firsts_of.Given as goal

abbrev pub invariant-loop-variable : goal.invariant-loop-variable
invariant-loop-variable l = (Firsts l.firsts (map held_at (take l.variable-index l.variables))) × (l.cells ≡ cell_count (map held_at (take l.variable-index l.variables)))
