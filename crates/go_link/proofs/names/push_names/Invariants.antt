use Rattle.std.proofs.Common.{◌≡◌, ◌++◌, map, take}
use Rattle.go_link.specs.Links.{object_symbol}
use Rattle.go_link.specs.Named.{symbol_at}
use Rattle.go_link.proofs.names.push_names.Given as goal

abbrev pub invariant-loop-function : goal.invariant-loop-function
invariant-loop-function l = map symbol_at l.names.items ≡ map symbol_at l.fn.names.items ++ map (λ f. object_symbol l.object f.name) (take l.function-index l.functions)
