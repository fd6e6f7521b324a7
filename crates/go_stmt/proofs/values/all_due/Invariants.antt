use Rattle.std.proofs.Common.{◌≡◌, ◌++◌, Some, drop, map}
use Rattle.std.specs.Option.{option_map}
use Rattle.go_types.specs.Views.{go_type}
use Rattle.go_stmt.proofs.values.all_due.Given as goal

abbrev pub invariant-loop-of : goal.invariant-loop-of
invariant-loop-of l = map (option_map go_type) l.all.items ++ map Some (map go_type (drop l.of-index l.types)) ≡ map Some (map go_type l.types)
