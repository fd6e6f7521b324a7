use Rattle.std.proofs.Common.{refl, ◌∙◌}
use Rattle.go_scan.specs.declared.keyword.Keyword.TheVariants as keywords
use Rattle.go_ast.specs.Machine.{keyword}
use Rattle.go_pexpr.specs.Reads.{First, left}
use Rattle.go_pstmt.proofs.Clauses.{default_comes, case_due}
use Rattle.go_pexpr.proofs.Reading.{then_fails}
use Rattle.go_pstmt.proofs.Reading.{went}
use Rattle.go_pstmt.proofs.Steps.{Kind, false_true}
use Rattle.go_pstmt.proofs.clause.clause_from.Goals as goal

pub returns-in_err-token-clause-reads : goal.returns-in_err-token-clause-reads
returns-in_err-token-clause-reads c = λ done next.
    then_fails (default_comes _ c.args.level done next _ (c.if-is_next.ensures.0 refl)) (c.in_err-token.ensures.reads _) c.from_residual.ensures.1

pub returns-in_err-expect-clause-reads : goal.returns-in_err-expect-clause-reads
returns-in_err-expect-clause-reads c = λ done next.
    then_fails (default_comes _ c.args.level done next _ (c.if-is_next.ensures.0 refl) ∙ went (c.in_ok-token.ensures.reads _)) (c.in_err-expect.ensures.reads _) c.from_residual-in_err-expect.ensures.1

pub returns-then-is_next-clause-reads : goal.returns-then-is_next-clause-reads
returns-then-is_next-clause-reads c = λ done next. record {
  by = default_comes _ c.args.level done next _ (c.if-is_next.ensures.0 refl) ∙ went (c.in_ok-token.ensures.reads _) ∙ went (c.in_ok-expect.ensures.reads _);
}

pub returns-in_err-token-2-clause-reads : goal.returns-in_err-token-2-clause-reads
returns-in_err-token-2-clause-reads c = λ done next.
    let never : First (Kind (keyword keywords.Default)) (left c.args.parser.now) → ⊥ = λ h. false_true (c.if-is_next.ensures.1 h) in
    then_fails (case_due _ c.args.level done next _ never c.requires.some) (c.in_err-token-2.ensures.reads _) c.from_residual-in_err-token-2.ensures.1

pub returns-in_err-values-clause-reads : goal.returns-in_err-values-clause-reads
returns-in_err-values-clause-reads c = λ done next.
    let never : First (Kind (keyword keywords.Default)) (left c.args.parser.now) → ⊥ = λ h. false_true (c.if-is_next.ensures.1 h) in
    then_fails (case_due _ c.args.level done next _ never c.requires.some ∙ went (c.in_ok-token-2.ensures.reads _)) (c.in_err-values.ensures.reads _) c.from_residual-in_err-values.ensures.1

pub returns-in_err-expect-2-clause-reads : goal.returns-in_err-expect-2-clause-reads
returns-in_err-expect-2-clause-reads c = λ done next.
    let never : First (Kind (keyword keywords.Default)) (left c.args.parser.now) → ⊥ = λ h. false_true (c.if-is_next.ensures.1 h) in
    then_fails (case_due _ c.args.level done next _ never c.requires.some ∙ went (c.in_ok-token-2.ensures.reads _) ∙ went (c.in_ok-values.ensures.reads _)) (c.in_err-expect-2.ensures.reads _) c.from_residual-in_err-expect-2.ensures.1

pub returns-clause-reads : goal.returns-clause-reads
returns-clause-reads c = λ done next.
    let never : First (Kind (keyword keywords.Default)) (left c.args.parser.now) → ⊥ = λ h. false_true (c.if-is_next.ensures.1 h) in
    record {
      by = case_due _ c.args.level done next _ never c.requires.some ∙ went (c.in_ok-token-2.ensures.reads _) ∙ went (c.in_ok-values.ensures.reads _) ∙ went (c.in_ok-expect-2.ensures.reads _);
    }
