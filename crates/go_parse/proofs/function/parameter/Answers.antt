use Rattle.std.proofs.Common.{◌∙◌}
use Rattle.go_pexpr.proofs.Reading.{then_fails}
use Rattle.go_pstmt.proofs.Reading.{went}
use Rattle.go_parse.proofs.function.parameter.Goals as goal

pub returns-in_err-type_expr-clause-reads : goal.returns-in_err-type_expr-clause-reads
returns-in_err-type_expr-clause-reads c = λ next.
    then_fails (went (c.in_ok-names.ensures.reads _)) (c.in_err-type_expr.ensures.reads _) c.from_residual-in_err-type_expr.ensures.1

pub returns-clause-reads : goal.returns-clause-reads
returns-clause-reads c = λ next. record { by = went (c.in_ok-names.ensures.reads _) ∙ went (c.in_ok-type_expr.ensures.reads _) }
