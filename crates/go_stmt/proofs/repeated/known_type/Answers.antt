use Rattle.std.proofs.Common.{sym}
use Rattle.go_ast.specs.Views.{type_of}
use Rattle.go_expr.specs.Verdicts.{type_faults}
use Rattle.go_expr.specs.Views.{scope_of}
use Rattle.go_expr.proofs.Fineness.{faulty_type_unknown}
use Rattle.go_stmt.proofs.Repeats.{is_faulty}
use Rattle.go_stmt.proofs.repeated.known_type.Goals as goal

pub returns-in-Err-Faulty : goal.returns-in-Err-Faulty
returns-in-Err-Faulty c =
    let s = scope_of c.args.scope.now in
    let t = type_of c.args.of.now in
    let err = c.in-Err-Faulty in
    sym (faulty_type_unknown s t (is_faulty err.field-0 err.field-0-0 err.field-0-1 (type_faults s t) err.field-0-is err.ensures))
