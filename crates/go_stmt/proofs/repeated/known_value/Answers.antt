use Rattle.std.proofs.Common.{◌++◌, sym}
use Rattle.go_ast.specs.Views.{expr_of}
use Rattle.go_expr.specs.Verdicts.{verdict, faults, operand_broken}
use Rattle.go_expr.specs.Views.{scope_of}
use Rattle.go_expr.proofs.Fineness.{faulty_operand_unknown}
use Rattle.go_stmt.proofs.Repeats.{is_faulty}
use Rattle.go_stmt.proofs.repeated.known_value.Goals as goal

pub returns-in-Err-Faulty : goal.returns-in-Err-Faulty
returns-in-Err-Faulty c =
    let s = scope_of c.args.scope.now in
    let e = expr_of c.args.value.now in
    let err = c.in-Err-Faulty in
    sym (faulty_operand_unknown s e (is_faulty err.field-0 err.field-0-0 err.field-0-1 (faults s e ++ operand_broken e (verdict s e)) err.field-0-is err.ensures))
