use Rattle.go_pexpr.proofs.Reading.{then_fails}
use Rattle.go_pstmt.proofs.Reading.{then_reads, took, missed}
use Rattle.go_parse.proofs.function.results.Goals as goal

pub returns-in-Some-clause-reads : goal.returns-in-Some-clause-reads
returns-in-Some-clause-reads c = λ next.
    then_reads (took (c.in_ok-accept.ensures.reads _ _) c.in-Some.is) (c.list.ensures.reads next)

pub returns-in_err-type_expr-clause-reads : goal.returns-in_err-type_expr-clause-reads
returns-in_err-type_expr-clause-reads c = λ next.
    then_fails (missed (c.in_ok-accept.ensures.reads _ _) c.in_default.is) (c.in_err-type_expr.ensures.reads _ _) c.from_residual-in_err-type_expr.ensures.1
