use Rattle.std.proofs.Common.{◌≡◌, ◌++◌, drop, map}
use Rattle.std.specs.Option.{option_map}
use Rattle.go_types.specs.Views.{go_type}
use Rattle.go_typed.specs.Trees.{expr_type}
use Rattle.go_typed.specs.Views.{as_expr}
use Rattle.go_stmt.proofs.assignment.due_by.Given as goal

abbrev pub invariant-loop-operand : goal.invariant-loop-operand
invariant-loop-operand l =
    map (option_map go_type) l.all.items ++ map (option_map expr_type) (map (option_map as_expr) (drop l.operand-index l.operands))
    ≡ map (option_map expr_type) (map (option_map as_expr) l.operands)
