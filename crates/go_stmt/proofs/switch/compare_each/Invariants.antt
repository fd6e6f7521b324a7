use Rattle.std.proofs.Common.{[], map}
use Rattle.go_types.specs.Views.{go_type}
use Rattle.go_typed.specs.Views.{as_expr}
use Rattle.go_expr.proofs.Gathering.{Leads}
use Rattle.go_stmt.specs.Rules.{case_value}
use Rattle.go_stmt.proofs.switch.compare_each.Given as goal

abbrev pub invariant-loop-value : goal.invariant-loop-value
invariant-loop-value l =
    Leads as_expr l.all.values.items l.all.fault (map (case_value (go_type l.of)) (map as_expr l.value-iterator.rest.items)) []
    (map (case_value (go_type l.of)) (map as_expr l.fn.values.items))
