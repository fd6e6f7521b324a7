use Rattle.std.proofs.Common.{refl, sym, ap, ◌∙◌}
use Rattle.go_ast.specs.Trees as trees
use Rattle.go_ast.specs.Machine.{run_parser}
use Rattle.go_ast.specs.Views.{expr_of, simple_of}
use Rattle.go_ast.specs.declared.expression.Expr.{Expr}
use Rattle.go_ast.specs.declared.statement.Simple.{Simple}
use Rattle.go_pexpr.specs.Reads.{left}
use Rattle.go_pexpr.proofs.Reading.{then_fails}
use Rattle.go_pstmt.specs.declared.simple.Header.{Header}
use Rattle.go_pstmt.specs.Statements.{by_header}
use Rattle.go_pstmt.proofs.simple.simple.Goals as goal

pub returns-in_err-simple-clause-reads : goal.returns-in_err-simple-clause-reads
returns-in_err-simple-clause-reads c = λ next.
    then_fails refl (c.in_err-simple.ensures.reads next (λ a. next (trees.call_statement a)) (λ n a. next (trees.call_statement a))) c.from_residual.ensures.1

pub returns-in-Simple-clause-reads : goal.returns-in-Simple-clause-reads
returns-in-Simple-clause-reads c = λ next.
    let as_call = λ (a : trees.Expression). next (trees.call_statement a) in
    record {
      by = (c.in_ok-simple.ensures.reads next as_call (λ n. as_call)).by
          ∙ ap (λ (h : Header). run_parser c.header_from.new.parser.edition 250 (by_header next as_call (λ n. as_call) h) (left c.header_from.new.parser)) c.in-Simple.is
          ∙ ap (λ (x : Simple). run_parser c.header_from.new.parser.edition 250 (next (simple_of x)) (left c.header_from.new.parser)) (sym c.into_inner.ensures);
    }

pub returns-in-Alone-clause-reads : goal.returns-in-Alone-clause-reads
returns-in-Alone-clause-reads c = λ next.
    let as_call = λ (a : trees.Expression). next (trees.call_statement a) in
    record {
      by = (c.in_ok-simple.ensures.reads next as_call (λ n. as_call)).by
          ∙ ap (λ (h : Header). run_parser c.header_from.new.parser.edition 250 (by_header next as_call (λ n. as_call) h) (left c.header_from.new.parser)) c.in-Alone.is
          ∙ ap (λ (x : Expr). run_parser c.header_from.new.parser.edition 250 (next (trees.call_statement (expr_of x))) (left c.header_from.new.parser)) (sym c.into_inner-in-Alone.ensures);
    }

pub returns-in-Range-clause-reads : goal.returns-in-Range-clause-reads
returns-in-Range-clause-reads c = λ next.
    let as_call = λ (a : trees.Expression). next (trees.call_statement a) in
    record {
      by = (c.in_ok-simple.ensures.reads next as_call (λ n. as_call)).by
          ∙ ap (λ (h : Header). run_parser c.header_from.new.parser.edition 250 (by_header next as_call (λ n. as_call) h) (left c.header_from.new.parser)) c.in-Range.is
          ∙ ap (λ (x : Expr). run_parser c.header_from.new.parser.edition 250 (next (trees.call_statement (expr_of x))) (left c.header_from.new.parser)) (sym c.into_inner-in-Range.ensures);
    }
