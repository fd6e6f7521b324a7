use Rattle.std.proofs.Common.{◌≡◌, ◌++◌, drop, map}
use Rattle.std.specs.Prelude.{option_and_then}
use Rattle.std.specs.Option.{option_map}
use Rattle.go_types.specs.Views.{go_type}
use Rattle.go_typed.specs.Views.{as_expr}
use Rattle.go_expr.specs.Rules.{settled_type}
use Rattle.go_stmt.proofs.values.types_by.Given as goal

abbrev pub invariant-loop-value : goal.invariant-loop-value
invariant-loop-value l =
    map (option_map go_type) l.all.items ++ map (option_and_then settled_type) (map (option_map as_expr) (drop l.value-index l.values))
    ≡ map (option_and_then settled_type) (map (option_map as_expr) l.values)
