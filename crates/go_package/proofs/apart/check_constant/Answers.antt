use Rattle.std.proofs.Common.{◌++◌}
use Rattle.std.specs.Option.{option_map}
use Rattle.go_ast.specs.Views.{expr_of, type_of as type_tree}
use Rattle.go_types.specs.Views.{go_type}
use Rattle.go_typed.specs.Views.{as_expr as typed_expr}
use Rattle.go_expr.specs.Views.{scope_of}
use Rattle.go_expr.specs.Verdicts.{verdict, operand_broken, faults}
use Rattle.go_stmt.specs.Statements.{written_faults}
use Rattle.go_stmt.proofs.Repeats.{is_faulty}
use Rattle.go_package.proofs.Own.{own_found}
use Rattle.go_package.proofs.apart.check_constant.Goals as goal

pub returns-in-Ok : goal.returns-in-Ok
returns-in-Ok c =
    let t = option_map (λ t. type_tree t.now) c.args.type_expr in
    let own = c.in-Ok.own in
    own_found c.check_parts.result (scope_of c.args.scope.now) c.args.place t (expr_of c.args.value.now) (option_map (option_map go_type) own.of) (option_map typed_expr own.value)
    c.in-Ok.ensures.faults c.in-Ok.ensures.of c.in-Ok.ensures.value c.check_parts.ensures

pub returns-in-Err-Faulty : goal.returns-in-Err-Faulty
returns-in-Err-Faulty c =
    let s = scope_of c.args.scope.now in
    let t = option_map (λ t. type_tree t.now) c.args.type_expr in
    let e = expr_of c.args.value.now in
    let err = c.in-Err-Faulty in
    c.check_faulty.ensures (is_faulty err.field-0 err.field-0-0 err.field-0-1 (written_faults s t ++ (faults s e ++ operand_broken e (verdict s e))) err.field-0-is err.ensures.faults)
