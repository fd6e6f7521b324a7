use Rattle.go_ast.specs.Views.{type_of}
use Rattle.go_expr.specs.Views.{scope_of}
use Rattle.go_expr.specs.Verdicts.{type_faults}
use Rattle.go_stmt.proofs.Repeats.{first_none, first_some}
use Rattle.go_stmt.proofs.repeated.type_fault.Goals as goal

pub returns-in-Ok : goal.returns-in-Ok
returns-in-Ok c = first_none (type_faults (scope_of c.args.scope.now) (type_of c.args.of.now)) c.in-Ok.ensures.0

pub returns-in-Err-Faulty : goal.returns-in-Err-Faulty
returns-in-Err-Faulty c =
    let err = c.in-Err-Faulty in
    first_some err.field-0 err.field-0-0 err.kind (type_faults (scope_of c.args.scope.now) (type_of c.args.of.now)) err.field-0-is err.ensures
