use Rattle.std.proofs.Common.{◌≡◌, drop, map}
use Rattle.go_ast.specs.Views.{exprs_in}
use Rattle.go_expr.specs.Rules.{least, lesser_fault}
use Rattle.go_expr.specs.Views.{scope_of}
use Rattle.go_stmt.specs.Statements.{first_faults}
use Rattle.go_stmt.proofs.repeated.values_fault.Given as goal

abbrev pub invariant-loop-value : goal.invariant-loop-value
invariant-loop-value l =
    lesser_fault l.least (least (map (λ f. f.1) (first_faults (scope_of l.scope) (exprs_in (drop l.value-index l.values)))))
    ≡ least (map (λ f. f.1) (first_faults (scope_of l.scope) (exprs_in l.values)))
