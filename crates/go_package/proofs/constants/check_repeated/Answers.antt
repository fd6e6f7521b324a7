use Rattle.std.proofs.Common.{◌++◌}
use Rattle.go_expr.specs.Views.{scope_of}
use Rattle.go_expr.specs.Verdicts.{operands_faults}
use Rattle.go_stmt.specs.Statements.{written_faults}
use Rattle.go_objects.specs.Views.{spec_of}
use Rattle.go_package.proofs.Repeated.{some_faulty}
use Rattle.go_package.proofs.constants.check_repeated.Goals as goal

pub returns-in-Faulty : goal.returns-in-Faulty
returns-in-Faulty c = λ iota h. (
    let s = scope_of c.args.scope.now in
    let spec = spec_of c.args.spec in
    c.told_repeated.ensures iota (some_faulty c.args.error c.in-Faulty.field-0 c.in-Faulty.field-1 (written_faults s spec.type ++ operands_faults s spec.values) c.in-Faulty.is h)
    )
