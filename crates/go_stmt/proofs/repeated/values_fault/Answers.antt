use Rattle.std.proofs.Common.{◌≡◌, ◌+◌, ◌<◌, ◌++◌, List, length, map, drop, ap, ◌∙◌, sym, arith}
use Rattle.std.proofs.lemmas.List.{map-append}
use Rattle.go_text.specs.declared.fault.FaultKind.{FaultKind}
use Rattle.go_ast.specs.declared.expression.Expr.{Expr}
use Rattle.go_ast.specs.Views.{expr_of, exprs_in}
use Rattle.go_expr.specs.Rules.{least, lesser_fault}
use Rattle.go_expr.specs.Views.{scope_of}
use Rattle.go_expr.specs.Verdicts.{verdict, faults, operand_broken}
use Rattle.go_expr.proofs.Gathering.{fault_next}
use Rattle.go_stmt.specs.Scopes.{StatementFaults}
use Rattle.go_stmt.specs.Statements.{first_fault, first_faults}
use Rattle.go_stmt.proofs.Sequences.{left}
use Rattle.go_stmt.proofs.repeated.values_fault.Goals as goal

pub loop-value-preserved : goal.loop-value-preserved
loop-value-preserved c =
    let es = c.args.values.now in
    let i = c.loop-value.value-index in
    let e = c.value-item.result in
    let s = scope_of c.args.scope.now in
    let within : i < length es = omega arith in
    let kinds : StatementFaults → List FaultKind = λ fs. map (λ f. f.1) fs in
    let own = first_fault (faults s (expr_of e) ++ operand_broken (expr_of e) (verdict s (expr_of e))) in
    let rest = first_faults s (exprs_in (drop (i + 1) es)) in
    let begins : kinds (first_faults s (exprs_in (drop i es))) ≡ kinds own ++ kinds rest =
    ap (λ (l : List Expr). kinds (first_faults s (exprs_in l))) (left es i e within c.value-item.is) ∙ map-append (λ f. f.1) own rest in
    fault_next c.loop-value.least c.lesser-least.result c.in_ok-value_fault.field-0 (kinds own) (kinds rest) _ c.lesser-least.ensures c.in_ok-value_fault.ensures
    (ap (λ l. lesser_fault c.loop-value.least (least l)) (sym begins) ∙ c.loop-value.invariant)
