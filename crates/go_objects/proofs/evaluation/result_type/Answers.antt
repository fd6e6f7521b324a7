use Rattle.std.proofs.Common.{Option, sym, ap}
use Rattle.go_ast.specs.Views.{expr_of}
use Rattle.go_expr.specs.Known.{Known}
use Rattle.go_expr.specs.Verdicts.{faults}
use Rattle.go_expr.specs.Views.{scope_of}
use Rattle.go_expr.proofs.Fineness.{faulty_unknown}
use Rattle.go_objects.specs.Table.{call_result_type}
use Rattle.go_objects.proofs.Silence.{first_fault, not_none}
use Rattle.go_objects.proofs.evaluation.result_type.Goals as goal

pub returns-in-Err-Faulty : goal.returns-in-Err-Faulty
returns-in-Err-Faulty c =
    let s = scope_of c.args.scope.now in
    let e = expr_of c.args.value.now in
    let err = c.in-Err-Faulty in
    let first = first_fault err.field-0 err.field-0-0 err.field-0-1 (faults s e) err.field-0-is err.ensures in
    sym (ap (λ (o : Option Known). call_result_type c.args.number c.args.count o) (faulty_unknown s e (not_none (faults s e) first.0 (err.field-0-0, err.field-0-1) first.1)))
