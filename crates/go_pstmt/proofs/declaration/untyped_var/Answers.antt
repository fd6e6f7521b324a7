use Rattle.std.proofs.Common.{None, refl}
use Rattle.go_pexpr.proofs.Reading.{then_fails}
use Rattle.go_pstmt.proofs.declaration.untyped_var.Goals as goal

pub returns-in_err-values-clause-reads : goal.returns-in_err-values-clause-reads
returns-in_err-values-clause-reads c = λ next.
    then_fails refl (c.in_err-values.ensures.reads (λ es. next (record { names = c.args.names.items; type = None; values = es }))) c.from_residual.ensures.1

pub returns-clause-reads : goal.returns-clause-reads
returns-clause-reads c = λ next.
    record { by = (c.in_ok-values.ensures.reads (λ es. next (record { names = c.args.names.items; type = None; values = es }))).by }
