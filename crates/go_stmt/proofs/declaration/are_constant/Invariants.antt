use Rattle.std.proofs.Common.{◌≡◌, drop, map}
use Rattle.std.specs.List.{list_all}
use Rattle.go_typed.specs.Views.{as_expr}
use Rattle.go_stmt.specs.Rules.{is_constant}
use Rattle.go_stmt.proofs.declaration.are_constant.Given as goal

abbrev pub invariant-loop-value : goal.invariant-loop-value
invariant-loop-value l = list_all is_constant (map as_expr (drop l.value-index l.values)) ≡ list_all is_constant (map as_expr l.values)
