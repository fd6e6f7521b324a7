use Rattle.std.proofs.Common.{◌≡◌, ◌++◌, map, drop}
use Rattle.std.specs.Arc.{arc_value}
use Rattle.go_link.specs.Links.{function_symbols}
use Rattle.go_link.specs.Named.{symbol_at}
use Rattle.go_link.proofs.names.collect_names.Given as goal

abbrev pub invariant-loop-object : goal.invariant-loop-object
invariant-loop-object l = map symbol_at l.all.items ++ function_symbols (map arc_value (drop l.object-index l.packages)) ≡ function_symbols (map arc_value l.packages)
