use Rattle.std.proofs.Common.{◌≡◌, map, drop}
use Rattle.std.specs.Arc.{arc_value}
use Rattle.std.specs.List.{flat_map, list_any}
use Rattle.go_link.specs.Links.{code_of, is_missing_symbol}
use Rattle.go_link.proofs.missing.name_missing.Given as goal

abbrev pub invariant-loop-object : goal.invariant-loop-object
invariant-loop-object l = list_any (is_missing_symbol l.names l.places) (flat_map code_of (map arc_value (drop l.object-index l.packages))) ≡ list_any (is_missing_symbol l.names l.places) (flat_map code_of (map arc_value l.packages))
