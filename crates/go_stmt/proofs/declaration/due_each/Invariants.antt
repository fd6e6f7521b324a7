use Rattle.std.proofs.Common.{◌≡◌, ◌++◌, drop, map}
use Rattle.std.specs.Option.{option_map}
use Rattle.go_types.specs.Views.{go_type}
use Rattle.go_stmt.proofs.declaration.due_each.Given as goal

abbrev pub invariant-loop-name : goal.invariant-loop-name
invariant-loop-name l = map (option_map go_type) l.all.items ++ map (λ n. option_map (λ t. go_type t.now) l.of) (drop l.name-index l.names) ≡ map (λ n. option_map (λ t. go_type t.now) l.of) l.names
