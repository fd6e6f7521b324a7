use Rattle.std.proofs.Common.{refl, ◌∙◌}
use Rattle.go_ast.specs.Trees as trees
use Rattle.go_ast.specs.Tokens.{lexeme}
use Rattle.go_pexpr.proofs.Reading.{then_fails}
use Rattle.go_pstmt.proofs.Reading.{went, took, missed}
use Rattle.go_parse.proofs.file.declaration.Goals as goal

pub returns-in_err-constants-clause-reads : goal.returns-in_err-constants-clause-reads
returns-in_err-constants-clause-reads c = λ some none.
    then_fails (took (c.in_ok-token.ensures.reads _ _) c.in-Some.is) (c.in_err-constants.ensures.reads (λ d. some (trees.declared d))) c.from_residual-in_err-constants.ensures.1

pub returns-in-Some-clause-reads : goal.returns-in-Some-clause-reads
returns-in-Some-clause-reads c = λ some none.
    record { by = took (c.in_ok-token.ensures.reads _ _) c.in-Some.is ∙ went (c.in_ok-constants.ensures.reads (λ d. some (trees.declared d))) }

pub returns-in_err-token-2-clause-reads : goal.returns-in_err-token-2-clause-reads
returns-in_err-token-2-clause-reads c = λ some none.
    then_fails (missed (c.in_ok-token.ensures.reads _ _) c.in_default.is) (c.in_err-token-2.ensures.reads _ _) c.from_residual-in_err-token-2.ensures.1

pub returns-in_err-variables-clause-reads : goal.returns-in_err-variables-clause-reads
returns-in_err-variables-clause-reads c = λ some none.
    then_fails (missed (c.in_ok-token.ensures.reads _ _) c.in_default.is ∙ took (c.in_ok-token-2.ensures.reads _ _) c.in-Some-2.is)
    (c.in_err-variables.ensures.reads (λ d. some (trees.declared d))) c.from_residual-in_err-variables.ensures.1

pub returns-in-Some-2-clause-reads : goal.returns-in-Some-2-clause-reads
returns-in-Some-2-clause-reads c = λ some none.
    record { by = missed (c.in_ok-token.ensures.reads _ _) c.in_default.is ∙ took (c.in_ok-token-2.ensures.reads _ _) c.in-Some-2.is ∙ went (c.in_ok-variables.ensures.reads (λ d. some (trees.declared d))) }

pub returns-in_err-token-3-clause-reads : goal.returns-in_err-token-3-clause-reads
returns-in_err-token-3-clause-reads c = λ some none.
    then_fails (missed (c.in_ok-token.ensures.reads _ _) c.in_default.is ∙ missed (c.in_ok-token-2.ensures.reads _ _) c.in_default-2.is)
    (c.in_err-token-3.ensures.reads _ _) c.from_residual-in_err-token-3.ensures.1

pub returns-in_err-types-clause-reads : goal.returns-in_err-types-clause-reads
returns-in_err-types-clause-reads c = λ some none.
    then_fails (missed (c.in_ok-token.ensures.reads _ _) c.in_default.is ∙ missed (c.in_ok-token-2.ensures.reads _ _) c.in_default-2.is ∙ took (c.in_ok-token-3.ensures.reads _ _) c.in-Some-3.is)
    (c.in_err-types.ensures.reads (λ d. some (trees.declared d))) c.from_residual-in_err-types.ensures.1

pub returns-in-Some-3-clause-reads : goal.returns-in-Some-3-clause-reads
returns-in-Some-3-clause-reads c = λ some none.
    record {
      by = missed (c.in_ok-token.ensures.reads _ _) c.in_default.is ∙ missed (c.in_ok-token-2.ensures.reads _ _) c.in_default-2.is ∙ took (c.in_ok-token-3.ensures.reads _ _) c.in-Some-3.is
          ∙ went (c.in_ok-types.ensures.reads (λ d. some (trees.declared d)));
    }

pub returns-in_err-token-4-clause-reads : goal.returns-in_err-token-4-clause-reads
returns-in_err-token-4-clause-reads c = λ some none.
    then_fails (missed (c.in_ok-token.ensures.reads _ _) c.in_default.is ∙ missed (c.in_ok-token-2.ensures.reads _ _) c.in_default-2.is ∙ missed (c.in_ok-token-3.ensures.reads _ _) c.in_default-3.is)
    (c.in_err-token-4.ensures.reads _ _) c.from_residual-in_err-token-4.ensures.1

pub returns-in_err-function-clause-reads : goal.returns-in_err-function-clause-reads
returns-in_err-function-clause-reads c = λ some none.
    then_fails (
    missed (c.in_ok-token.ensures.reads _ _) c.in_default.is ∙ missed (c.in_ok-token-2.ensures.reads _ _) c.in_default-2.is ∙ missed (c.in_ok-token-3.ensures.reads _ _) c.in_default-3.is
    ∙ took (c.in_ok-token-4.ensures.reads _ _) c.in-Some-4.is)
    (c.in_err-function.ensures.reads (λ f. some (trees.function f)) (lexeme c.accept-3.new.self.text.now c.in-Some-4.token) refl) c.from_residual-in_err-function.ensures.1
