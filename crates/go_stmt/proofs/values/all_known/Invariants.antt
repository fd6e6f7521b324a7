use Rattle.std.proofs.Common.{◌≡◌, ◌++◌, map}
use Rattle.std.specs.Option.{option_map}
use Rattle.go_typed.specs.Views.{as_expr}
use Rattle.go_stmt.specs.Rules.{all_some}
use Rattle.go_stmt.proofs.values.all_known.Given as goal

abbrev pub invariant-loop-value : goal.invariant-loop-value
invariant-loop-value l =
    option_map (λ rest. map as_expr l.all.items ++ rest) (all_some (map (option_map as_expr) l.value-iterator.rest.items)) ≡ all_some (map (option_map as_expr) l.fn.values.items)
