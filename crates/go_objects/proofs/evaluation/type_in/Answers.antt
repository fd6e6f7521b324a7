use Rattle.std.proofs.Common.{sym}
use Rattle.go_ast.specs.Views.{type_of}
use Rattle.go_expr.specs.Verdicts.{type_faults}
use Rattle.go_expr.specs.Views.{scope_of}
use Rattle.go_expr.proofs.Fineness.{faulty_type_unknown}
use Rattle.go_objects.proofs.Silence.{first_fault, not_none}
use Rattle.go_objects.proofs.evaluation.type_in.Goals as goal

pub returns-in-Err-Faulty : goal.returns-in-Err-Faulty
returns-in-Err-Faulty c =
    let s = scope_of c.args.scope.now in
    let t = type_of c.args.of.now in
    let err = c.in-Err-Faulty in
    let first = first_fault err.field-0 err.field-0-0 err.field-0-1 (type_faults s t) err.field-0-is err.ensures in
    sym (faulty_type_unknown s t (not_none (type_faults s t) first.0 (err.field-0-0, err.field-0-1) first.1))
