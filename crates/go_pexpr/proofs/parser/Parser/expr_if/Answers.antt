use Rattle.std.proofs.Common.{sym, ◌∙◌}
use Rattle.go_pexpr.specs.Reads.{left, expected_of}
use Rattle.go_pexpr.proofs.Reading.{then_fails, then_refuses}
use Rattle.go_pexpr.proofs.OptionalTurns.{expr_there, expr_out, expr_missing}
use Rattle.go_pexpr.proofs.parser.Parser.expr_if.Goals as goal

pub returns-in_err-e-clause-reads : goal.returns-in_err-e-clause-reads
returns-in_err-e-clause-reads c = λ some none.
    then_fails (expr_there c.args.self.now.edition c.args.header c.args.level (expected_of c.args.expected) (some) none (left c.args.self.now) (sym c.if-begins_expr.ensures))
    (c.in_err-e.ensures.reads some) c.from_residual.ensures.1

pub returns-then-begins_expr-clause-reads : goal.returns-then-begins_expr-clause-reads
returns-then-begins_expr-clause-reads c = λ some none.
    record { by = expr_there c.args.self.now.edition c.args.header c.args.level (expected_of c.args.expected) some none (left c.args.self.now) (sym c.if-begins_expr.ensures) ∙ (c.in_ok-e.ensures.reads some).by }

pub returns-then-is_left_out-clause-reads : goal.returns-then-is_left_out-clause-reads
returns-then-is_left_out-clause-reads c = λ some none.
    then_refuses c.wrong.result _ (expr_out c.args.self.now.edition c.args.header c.args.level (expected_of c.args.expected) some none (left c.args.self.now) (sym c.if-begins_expr.ensures) (sym c.if-is_left_out.ensures)) c.wrong.ensures

pub returns-clause-reads : goal.returns-clause-reads
returns-clause-reads c = λ some none.
    record { by = expr_missing c.args.self.now.edition c.args.header c.args.level (expected_of c.args.expected) some none (left c.args.self.now) (sym c.if-begins_expr.ensures) (sym c.if-is_left_out.ensures) }
