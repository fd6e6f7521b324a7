use Rattle.std.proofs.Common.{sym, ◌∙◌}
use Rattle.std.specs.Option.{option_map}
use Rattle.go_ast.specs.Views.{expr_of, type_of as type_tree}
use Rattle.go_expr.specs.Views.{scope_of}
use Rattle.go_stmt.specs.Statements.{first_fault, written_faults}
use Rattle.go_stmt.proofs.Repeats.{least_of_both}
use Rattle.go_package.proofs.Own.{of_value, least_found, never_least}
use Rattle.go_package.proofs.apart.check_faulty.Goals as goal

pub returns-in-Some : goal.returns-in-Some
returns-in-Some c = λ some. (
    let s = scope_of c.args.scope.now in
    let t = option_map (λ t. type_tree t.now) c.args.type_expr in
    let e = expr_of c.args.value.now in
    let least = c.lesser.ensures ∙ least_of_both c.in_ok-written.written c.in_ok-value_fault.field-0 (first_fault (written_faults s t)) (first_fault (of_value s e)) c.in_ok-written.ensures c.in_ok-value_fault.ensures in
    least_found s c.args.place t e c.in-Some.kind (sym c.in-Some.is ∙ least)
    )

pub returns-in-None : goal.returns-in-None
returns-in-None c = λ some. (
    let s = scope_of c.args.scope.now in
    let t = option_map (λ t. type_tree t.now) c.args.type_expr in
    let e = expr_of c.args.value.now in
    let least = c.lesser.ensures ∙ least_of_both c.in_ok-written.written c.in_ok-value_fault.field-0 (first_fault (written_faults s t)) (first_fault (of_value s e)) c.in_ok-written.ensures c.in_ok-value_fault.ensures in
    absurd (never_least s t e some (sym c.in-None.is ∙ least))
    )
