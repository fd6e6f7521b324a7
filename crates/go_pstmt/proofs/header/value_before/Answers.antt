use Rattle.std.proofs.Common.{true, Some, None, sym, ap, ◌∙◌}
use Rattle.go_ast.specs.Trees as trees
use Rattle.go_ast.specs.Expected.{another, an_operand}
use Rattle.go_ast.specs.Machine.{expr, token, run_parser}
use Rattle.go_ast.specs.Views.{expr_of}
use Rattle.go_ast.specs.declared.expression.Expr.{Expr}
use Rattle.go_pexpr.specs.Reads.{left}
use Rattle.go_pexpr.proofs.Reading.{then_fails}
use Rattle.go_pstmt.proofs.Reading.{took, missed}
use Rattle.go_pstmt.proofs.header.value_before.Goals as goal

pub returns-in-Some-clause-reads : goal.returns-in-Some-clause-reads
returns-in-Some-clause-reads c = λ next.
    let behind = λ (e : trees.Expression). token c.args.mark 0 another (λ _. next (Some e)) in
    record { by = took (c.in_ok-accept.ensures.reads (λ _. next None) (expr 5 true c.args.level an_operand behind)) c.in-Some.is }

pub returns-in_err-value-clause-reads : goal.returns-in_err-value-clause-reads
returns-in_err-value-clause-reads c = λ next.
    let behind = λ (e : trees.Expression). token c.args.mark 0 another (λ _. next (Some e)) in
    let went = missed (c.in_ok-accept.ensures.reads (λ _. next None) (expr 5 true c.args.level an_operand behind)) c.in_default.is in
    then_fails went (c.in_err-value.ensures.reads behind) c.from_residual-in_err-value.ensures.1

pub returns-in_err-expect-clause-reads : goal.returns-in_err-expect-clause-reads
returns-in_err-expect-clause-reads c = λ next.
    let behind = λ (e : trees.Expression). token c.args.mark 0 another (λ _. next (Some e)) in
    let went = missed (c.in_ok-accept.ensures.reads (λ _. next None) (expr 5 true c.args.level an_operand behind)) c.in_default.is in
    then_fails (went ∙ (c.in_ok-value.ensures.reads behind).by) (c.in_err-expect.ensures.reads (λ _. next (Some (expr_of c.in_ok-value.value)))) c.from_residual-in_err-expect.ensures.1

pub returns-clause-reads : goal.returns-clause-reads
returns-clause-reads c = λ next.
    let behind = λ (e : trees.Expression). token c.args.mark 0 another (λ _. next (Some e)) in
    let went = missed (c.in_ok-accept.ensures.reads (λ _. next None) (expr 5 true c.args.level an_operand behind)) c.in_default.is in
    record {
      by = went ∙ (c.in_ok-value.ensures.reads behind).by ∙ (c.in_ok-expect.ensures.reads (λ _. next (Some (expr_of c.in_ok-value.value)))).by
          ∙ ap (λ (x : Expr). run_parser c.expect.new.self.edition 250 (next (Some (expr_of x))) (left c.expect.new.self)) (sym c.in_ok-value-2.ensures.ok);
    }
