use Rattle.std.proofs.Common.{◌≡◌, ◌++◌, drop, map}
use Rattle.go_types.specs.Views.{go_type}
use Rattle.go_stmt.proofs.declaration.zeros_of.Given as goal

abbrev pub invariant-loop-name : goal.invariant-loop-name
invariant-loop-name l = map go_type l.all.items ++ map (λ n. go_type l.of) (drop l.name-index l.names) ≡ map (λ n. go_type l.of) l.names
