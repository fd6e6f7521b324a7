use Rattle.std.proofs.Common.{◌++◌, sym}
use Rattle.go_ast.specs.Views.{expr_of}
use Rattle.go_expr.specs.Verdicts.{verdict, faults, operand_broken}
use Rattle.go_expr.specs.Views.{scope_of}
use Rattle.go_objects.proofs.Silence.{first_fault, operand_unknown}
use Rattle.go_objects.proofs.evaluation.operand_in.Goals as goal

pub returns-in-Err-Faulty : goal.returns-in-Err-Faulty
returns-in-Err-Faulty c =
    let s = scope_of c.args.scope.now in
    let e = expr_of c.args.value.now in
    let err = c.in-Err-Faulty in
    let first = first_fault err.field-0 err.field-0-0 err.field-0-1 (faults s e ++ operand_broken e (verdict s e)) err.field-0-is err.ensures in
    sym (operand_unknown s e (err.field-0-0, err.field-0-1) first.0 first.1)
