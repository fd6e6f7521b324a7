use Rattle.std.proofs.Common.{◌∙◌, refl}
use Rattle.go_ast.specs.Trees as trees
use Rattle.go_ast.proofs.StatementRows.{return_seen, break_seen, continue_seen, fallthrough_seen}
use Rattle.go_pexpr.proofs.Reading.{then_fails}
use Rattle.go_pstmt.proofs.Reading.{then_sees, went, took, missed}
use Rattle.go_pstmt.proofs.jump.jump.Goals as goal

pub returns-in_err-values-clause-reads : goal.returns-in_err-values-clause-reads
returns-in_err-values-clause-reads c = λ next none.
    then_fails (took (c.in_ok-token.ensures.reads _ _) c.in-Some.is)
    (c.in_err-values.ensures.reads (λ es. next (trees.return c.in-Some.token.place es))) c.from_residual-in_err-values.ensures.1

pub returns-in-Some-clause-reads : goal.returns-in-Some-clause-reads
returns-in-Some-clause-reads c = λ next none.
    then_sees next _ _ (
    took (c.in_ok-token.ensures.reads _ _) c.in-Some.is
    ∙ went (c.in_ok-values.ensures.reads (λ es. next (trees.return c.in-Some.token.place es)))) (return_seen _ _) refl

pub returns-in_err-token-2-clause-reads : goal.returns-in_err-token-2-clause-reads
returns-in_err-token-2-clause-reads c = λ next none.
    then_fails (missed (c.in_ok-token.ensures.reads _ _) c.in_default.is) (c.in_err-token-2.ensures.reads _ _) c.from_residual-in_err-token-2.ensures.1

pub returns-in-Some-2-clause-reads : goal.returns-in-Some-2-clause-reads
returns-in-Some-2-clause-reads c = λ next none.
    then_sees next _ _ (missed (c.in_ok-token.ensures.reads _ _) c.in_default.is ∙ took (c.in_ok-token-2.ensures.reads _ _) c.in-Some-2.is) (break_seen _) refl

pub returns-in_err-token-3-clause-reads : goal.returns-in_err-token-3-clause-reads
returns-in_err-token-3-clause-reads c = λ next none.
    then_fails (
    missed (c.in_ok-token.ensures.reads _ _) c.in_default.is
    ∙ missed (c.in_ok-token-2.ensures.reads _ _) c.in_default-2.is) (c.in_err-token-3.ensures.reads _ _) c.from_residual-in_err-token-3.ensures.1

pub returns-in-Some-3-clause-reads : goal.returns-in-Some-3-clause-reads
returns-in-Some-3-clause-reads c = λ next none.
    then_sees next _ _ (
    missed (c.in_ok-token.ensures.reads _ _) c.in_default.is
    ∙ missed (c.in_ok-token-2.ensures.reads _ _) c.in_default-2.is
    ∙ took (c.in_ok-token-3.ensures.reads _ _) c.in-Some-3.is) (continue_seen _) refl

pub returns-in_err-token-4-clause-reads : goal.returns-in_err-token-4-clause-reads
returns-in_err-token-4-clause-reads c = λ next none.
    then_fails (
    missed (c.in_ok-token.ensures.reads _ _) c.in_default.is
    ∙ missed (c.in_ok-token-2.ensures.reads _ _) c.in_default-2.is
    ∙ missed (c.in_ok-token-3.ensures.reads _ _) c.in_default-3.is) (c.in_err-token-4.ensures.reads _ _) c.from_residual-in_err-token-4.ensures.1

pub returns-in-Some-4-clause-reads : goal.returns-in-Some-4-clause-reads
returns-in-Some-4-clause-reads c = λ next none.
    then_sees next _ _ (
    missed (c.in_ok-token.ensures.reads _ _) c.in_default.is
    ∙ missed (c.in_ok-token-2.ensures.reads _ _) c.in_default-2.is
    ∙ missed (c.in_ok-token-3.ensures.reads _ _) c.in_default-3.is
    ∙ took (c.in_ok-token-4.ensures.reads _ _) c.in-Some-4.is) (fallthrough_seen _) refl
