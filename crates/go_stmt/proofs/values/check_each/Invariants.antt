use Rattle.std.proofs.Common.{◌≡◌, ◌++◌, drop, map}
use Rattle.std.specs.Option.{option_map}
use Rattle.go_ast.specs.Views.{exprs_in}
use Rattle.go_typed.specs.Views.{as_expr}
use Rattle.go_expr.specs.Verdicts.{operand, verdict}
use Rattle.go_expr.specs.Views.{scope_of}
use Rattle.go_stmt.specs.Statements.{each_of, operands_faults}
use Rattle.go_stmt.proofs.values.check_each.Given as goal

abbrev pub invariant-loop-e : goal.invariant-loop-e
invariant-loop-e l = record {
  faults : operands_faults (scope_of l.scope) (exprs_in (drop l.e-index l.es)) ≡ operands_faults (scope_of l.scope) (exprs_in l.es);
  values : map (option_map as_expr) l.all.items ++ each_of (λ e. operand (verdict (scope_of l.scope) e)) (exprs_in (drop l.e-index l.es))
      ≡ each_of (λ e. operand (verdict (scope_of l.scope) e)) (exprs_in l.es);
}
