use Rattle.std.proofs.Common.{◌≡◌, ◌++◌, map}
use Rattle.std.specs.Option.{option_map}
use Rattle.go_types.specs.Views.{go_type}
use Rattle.go_stmt.specs.Rules.{all_some}
use Rattle.go_stmt.proofs.function.all_types.Given as goal

abbrev pub invariant-loop-of : goal.invariant-loop-of
invariant-loop-of l =
    option_map (λ rest. map go_type l.all.items ++ rest) (all_some (map (option_map go_type) l.of-iterator.rest.items)) ≡ all_some (map (option_map go_type) l.fn.types.items)
