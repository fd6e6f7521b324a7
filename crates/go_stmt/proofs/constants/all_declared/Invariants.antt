use Rattle.std.proofs.Common.{◌≡◌, ◌++◌, drop, map}
use Rattle.std.specs.Option.{option_map}
use Rattle.go_typed.specs.Views.{as_expr}
use Rattle.go_expr.specs.Views.{declared_of}
use Rattle.go_stmt.specs.Statements.{declared_as}
use Rattle.go_stmt.proofs.constants.all_declared.Given as goal

abbrev pub invariant-loop-value : goal.invariant-loop-value
invariant-loop-value l =
    map (option_map declared_of) l.all.items ++ map declared_as (map (option_map as_expr) (drop l.value-index l.values)) ≡ map declared_as (map (option_map as_expr) l.values)
