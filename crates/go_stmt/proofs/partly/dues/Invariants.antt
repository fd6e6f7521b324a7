use Rattle.std.proofs.Common.{◌≡◌, ◌++◌, Some, drop, map}
use Rattle.std.specs.Option.{option_map}
use Rattle.go_types.specs.Views.{go_type}
use Rattle.go_stmt.specs.Views.{due_seen}
use Rattle.go_stmt.proofs.partly.dues.Given as goal

abbrev pub invariant-loop-of : goal.invariant-loop-of
invariant-loop-of l =
    map due_seen l.all.items ++ map (option_map Some) (map (option_map go_type) (drop l.of-index l.types)) ≡ map (option_map Some) (map (option_map go_type) l.types)
