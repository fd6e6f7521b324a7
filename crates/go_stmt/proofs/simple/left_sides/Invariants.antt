use Rattle.std.proofs.Common.{◌≡◌, ◌++◌, map}
use Rattle.std.specs.Option.{option_map}
use Rattle.go_typed.specs.Views.{as_expr, left_of}
use Rattle.go_stmt.specs.Rules.{all_some, left_side}
use Rattle.go_stmt.proofs.simple.left_sides.Given as goal

abbrev pub invariant-loop-operand : goal.invariant-loop-operand
invariant-loop-operand l =
    option_map (λ rest. map left_of l.all.items ++ rest) (all_some (map left_side (map (option_map as_expr) l.operand-iterator.rest.items)))
    ≡ all_some (map left_side (map (option_map as_expr) l.fn.operands.items))
