use Rattle.std.proofs.Common.{refl}
use Rattle.go_ast.specs.Machine.{switch_body}
use Rattle.go_ast.specs.Views.{simple_of, if_boxed}
use Rattle.go_pexpr.proofs.Reading.{then_fails}
use Rattle.go_pstmt.proofs.header.compared_behind.Goals as goal

pub returns-in_err-value-clause-reads : goal.returns-in_err-value-clause-reads
returns-in_err-value-clause-reads c = λ p next.
    then_fails refl (c.in_err-value.ensures.reads (switch_body c.args.level p next (if_boxed simple_of c.args.init))) c.from_residual.ensures.1

pub returns-clause-reads : goal.returns-clause-reads
returns-clause-reads c = λ p next. record { by = (c.in_ok-value.ensures.reads (switch_body c.args.level p next (if_boxed simple_of c.args.init))).by }
