use Rattle.std.proofs.Common.{Some, ◌∙◌}
use Rattle.go_ast.specs.Trees.{ExpressionList}
use Rattle.go_ast.specs.Views.{type_of}
use Rattle.go_pexpr.proofs.Reading.{then_fails}
use Rattle.go_pstmt.proofs.Reading.{then_reads, went, took, missed}
use Rattle.go_pstmt.proofs.declaration.const_spec.Goals as goal

pub returns-in_err-type_expr-clause-reads : goal.returns-in_err-type_expr-clause-reads
returns-in_err-type_expr-clause-reads c = λ next.
    then_fails (went (c.in_ok-names.ensures.reads _)) (c.in_err-type_expr.ensures.reads _ _) c.from_residual-in_err-type_expr.ensures.1

pub returns-in_default-clause-reads : goal.returns-in_default-clause-reads
returns-in_default-clause-reads c = λ next.
    then_reads (went (c.in_ok-names.ensures.reads _) ∙ missed (c.in_ok-type_expr.ensures.reads _ _) c.in_default.is) (c.untyped_const.ensures.reads next)

pub returns-in_err-values-clause-reads : goal.returns-in_err-values-clause-reads
returns-in_err-values-clause-reads c = λ next.
    let made = λ (es : ExpressionList). next (record { names = c.in_ok-names.names.items; type = Some (type_of c.in-Some.type_expr); values = es }) in
    then_fails (went (c.in_ok-names.ensures.reads _) ∙ took (c.in_ok-type_expr.ensures.reads _ _) c.in-Some.is) (c.in_err-values.ensures.reads made) c.from_residual-in_err-values.ensures.1

pub returns-clause-reads : goal.returns-clause-reads
returns-clause-reads c = λ next.
    let made = λ (es : ExpressionList). next (record { names = c.in_ok-names.names.items; type = Some (type_of c.in-Some.type_expr); values = es }) in
    record { by = went (c.in_ok-names.ensures.reads _) ∙ took (c.in_ok-type_expr.ensures.reads _ _) c.in-Some.is ∙ went (c.in_ok-values.ensures.reads made) }
