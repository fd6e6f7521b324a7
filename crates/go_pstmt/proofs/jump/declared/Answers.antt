use Rattle.std.proofs.Common.{◌∙◌, refl}
use Rattle.go_ast.specs.Trees as trees
use Rattle.go_ast.proofs.StatementRows.{declaration_seen}
use Rattle.go_pexpr.proofs.Reading.{then_fails}
use Rattle.go_pstmt.proofs.Reading.{then_sees, went, took, missed}
use Rattle.go_pstmt.proofs.jump.declared.Goals as goal

pub returns-in_err-declaration-clause-reads : goal.returns-in_err-declaration-clause-reads
returns-in_err-declaration-clause-reads c = λ next none.
    then_fails (took (c.in_ok-token.ensures.reads _ _) c.in-Some.is)
    (c.in_err-declaration.ensures.reads (λ d. next (trees.declaration c.in-Some.token.place d))) c.from_residual-in_err-declaration.ensures.1

pub returns-in-Some-clause-reads : goal.returns-in-Some-clause-reads
returns-in-Some-clause-reads c = λ next none.
    then_sees next _ _ (
    took (c.in_ok-token.ensures.reads _ _) c.in-Some.is
    ∙ went (c.in_ok-declaration.ensures.reads (λ d. next (trees.declaration c.in-Some.token.place d)))) (declaration_seen _ _) refl

pub returns-in_err-token-2-clause-reads : goal.returns-in_err-token-2-clause-reads
returns-in_err-token-2-clause-reads c = λ next none.
    then_fails (missed (c.in_ok-token.ensures.reads _ _) c.in_default.is) (c.in_err-token-2.ensures.reads _ _) c.from_residual-in_err-token-2.ensures.1

pub returns-in_err-declaration-2-clause-reads : goal.returns-in_err-declaration-2-clause-reads
returns-in_err-declaration-2-clause-reads c = λ next none.
    then_fails (missed (c.in_ok-token.ensures.reads _ _) c.in_default.is ∙ took (c.in_ok-token-2.ensures.reads _ _) c.in-Some-2.is)
    (c.in_err-declaration-2.ensures.reads (λ d. next (trees.declaration c.in-Some-2.token.place d))) c.from_residual-in_err-declaration-2.ensures.1

pub returns-in-Some-2-clause-reads : goal.returns-in-Some-2-clause-reads
returns-in-Some-2-clause-reads c = λ next none.
    then_sees next _ _ (
    missed (c.in_ok-token.ensures.reads _ _) c.in_default.is ∙ took (c.in_ok-token-2.ensures.reads _ _) c.in-Some-2.is
    ∙ went (c.in_ok-declaration-2.ensures.reads (λ d. next (trees.declaration c.in-Some-2.token.place d)))) (declaration_seen _ _) refl
