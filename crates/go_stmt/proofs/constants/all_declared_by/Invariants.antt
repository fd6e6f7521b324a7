use Rattle.std.proofs.Common.{◌≡◌, ◌++◌, drop, map}
use Rattle.std.specs.Option.{option_map}
use Rattle.go_types.specs.Views.{go_type}
use Rattle.go_typed.specs.Views.{as_expr}
use Rattle.go_expr.specs.Rules.{fine, assigned}
use Rattle.go_expr.specs.Verdicts.{asked, both}
use Rattle.go_expr.specs.Views.{declared_of}
use Rattle.go_stmt.specs.Statements.{declared_as}
use Rattle.go_stmt.proofs.constants.all_declared_by.Given as goal

abbrev pub invariant-loop-value : goal.invariant-loop-value
invariant-loop-value l =
    map (option_map declared_of) l.all.items ++ map (λ e. declared_as (fine (asked (λ k. assigned k.0 k.1) (both (option_map go_type l.of) e)))) (map (option_map as_expr) (drop l.value-index l.values))
    ≡ map (λ e. declared_as (fine (asked (λ k. assigned k.0 k.1) (both (option_map go_type l.of) e)))) (map (option_map as_expr) l.values)
