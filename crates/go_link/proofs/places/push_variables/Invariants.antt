use Rattle.std.proofs.Common.{◌≡◌, ◌++◌, map, take, length}
use Rattle.go_link.specs.Links.{object_symbol}
use Rattle.go_link.specs.Named.{held_at}
use Rattle.go_link.proofs.places.push_variables.Given as goal

abbrev pub invariant-loop-variable : goal.invariant-loop-variable
invariant-loop-variable l = map held_at l.found.items ≡ map held_at l.fn.found.items ++ map (λ v. (object_symbol l.object v.name, length v.zero)) (take l.variable-index l.variables)
