use Rattle.std.proofs.Common.{◌++◌}
use Rattle.go_ast.specs.Views.{expr_of}
use Rattle.go_expr.specs.Views.{scope_of}
use Rattle.go_expr.specs.Verdicts.{verdict, faults, operand_broken}
use Rattle.go_stmt.proofs.Repeats.{first_none, first_some}
use Rattle.go_stmt.proofs.repeated.value_fault.Goals as goal

pub returns-in-Ok : goal.returns-in-Ok
returns-in-Ok c =
    let s = scope_of c.args.scope.now in
    let e = expr_of c.args.value.now in
    first_none (faults s e ++ operand_broken e (verdict s e)) c.in-Ok.ensures.0

pub returns-in-Err-Faulty : goal.returns-in-Err-Faulty
returns-in-Err-Faulty c =
    let s = scope_of c.args.scope.now in
    let e = expr_of c.args.value.now in
    let err = c.in-Err-Faulty in
    first_some err.field-0 err.field-0-0 err.kind (faults s e ++ operand_broken e (verdict s e)) err.field-0-is err.ensures
