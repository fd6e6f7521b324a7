use Rattle.std.proofs.Common.{◌≤◌, List, [], ◌∷◌, ◌++◌, length, map, sym, ap, ◌∙◌, subst, arith}
use Rattle.go_ast.specs.Expected.{an_operand}
use Rattle.go_ast.specs.Machine.{expr, lefts, run_parser}
use Rattle.go_ast.specs.Views.{expr_of}
use Rattle.go_ast.specs.declared.expression.Expr.{Expr}
use Rattle.go_pexpr.specs.Reads.{left}
use Rattle.go_pexpr.proofs.Reading.{then_fails}
use Rattle.go_pstmt.specs.Statements.{position_of, is_bare}
use Rattle.go_pstmt.proofs.Lefts.{lefts_comma, some_exprs, some_pushed, pushed}
use Rattle.go_pstmt.proofs.simple.left_sides.Goals as goal

pub returns-in_err-expect-clause-reads : goal.returns-in_err-expect-clause-reads
returns-in_err-expect-clause-reads c = λ next alone range.
    let m = position_of c.args.position in
    let h = is_bare c.args.position in
    let front = map expr_of c.sides.sides.items in
    then_fails
    (c.sides.invariant.reads next alone range
    ∙ lefts_comma c.sides.parser.edition m h c.args.level next alone range front (left c.sides.parser) (some_exprs c.sides.sides.items c.sides.invariant.some) (c.is_next.ensures.0 c.sides-test.true))
    (c.in_err-expect.ensures.reads (λ _. expr 5 h c.args.level an_operand (λ e. lefts m h c.args.level (front ++ e ∷ []) next alone range))) c.from_residual-in_err-expect.ensures.1

pub returns-in_err-expr_from-2-clause-reads : goal.returns-in_err-expr_from-2-clause-reads
returns-in_err-expr_from-2-clause-reads c = λ next alone range.
    let m = position_of c.args.position in
    let h = is_bare c.args.position in
    let front = map expr_of c.sides.sides.items in
    then_fails
    (c.sides.invariant.reads next alone range
    ∙ lefts_comma c.sides.parser.edition m h c.args.level next alone range front (left c.sides.parser) (some_exprs c.sides.sides.items c.sides.invariant.some) (c.is_next.ensures.0 c.sides-test.true)
    ∙ (c.in_ok-expect.ensures.reads (λ _. expr 5 h c.args.level an_operand (λ e. lefts m h c.args.level (front ++ e ∷ []) next alone range))).by
    ∙ ap (λ b. run_parser c.expect.new.self.edition 250 (expr 5 b c.args.level an_operand (λ e. lefts m h c.args.level (front ++ e ∷ []) next alone range)) (left c.expect.new.self)) (sym c.is_bare-bare.ensures))
    (c.in_err-expr_from-2.ensures.reads (λ e. lefts m h c.args.level (front ++ e ∷ []) next alone range)) c.from_residual-in_err-expr_from-2.ensures.1

pub sides-preserved : goal.sides-preserved
sides-preserved c =
    let m = position_of c.args.position in
    let h = is_bare c.args.position in
    let front = map expr_of c.sides.sides.items in
    let all = ap (λ (xs : List Expr). map expr_of xs) c.in_ok-push-2.ensures.items ∙ pushed expr_of c.sides.sides.items c.in_ok-expr_from-2.field-0 in
    record {
      reads = λ next alone range.
          c.sides.invariant.reads next alone range
          ∙ lefts_comma c.sides.parser.edition m h c.args.level next alone range front (left c.sides.parser) (some_exprs c.sides.sides.items c.sides.invariant.some) (c.is_next.ensures.0 c.sides-test.true)
          ∙ (c.in_ok-expect.ensures.reads (λ _. expr 5 h c.args.level an_operand (λ e. lefts m h c.args.level (front ++ e ∷ []) next alone range))).by
          ∙ ap (λ b. run_parser c.expect.new.self.edition 250 (expr 5 b c.args.level an_operand (λ e. lefts m h c.args.level (front ++ e ∷ []) next alone range)) (left c.expect.new.self)) (sym c.is_bare-bare.ensures)
          ∙ (c.in_ok-expr_from-2.ensures.reads (λ e. lefts m h c.args.level (front ++ e ∷ []) next alone range)).by
          ∙ ap (λ es. run_parser c.expr_from-in-sides.new.self.edition 250 (lefts m h c.args.level es next alone range) (left c.expr_from-in-sides.new.self)) (sym all);
      some = subst (λ (xs : List Expr). 1 ≤ length xs) (sym c.in_ok-push-2.ensures.items) (some_pushed c.sides.sides.items c.in_ok-expr_from-2.field-0);
      shorter = omega (arith, c.in_ok-expr_from-2.ensures.shorter, c.in_ok-expect.ensures.shorter, c.sides.invariant.shorter);
    }
