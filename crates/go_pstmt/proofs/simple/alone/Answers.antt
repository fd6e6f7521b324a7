use Rattle.std.proofs.Common.{true, refl, sym, ap, ◌∙◌}
use Rattle.go_ast.specs.Trees as trees
use Rattle.go_ast.specs.Expected.{Expected}
use Rattle.go_ast.specs.Machine.{run_parser, Refused}
use Rattle.go_ast.specs.Views.{expr_of}
use Rattle.go_ast.specs.declared.expression.Expr.{Expr}
use Rattle.go_pexpr.specs.Reads.{left, fault_of, expected_of}
use Rattle.go_pexpr.proofs.Reading.{then_makes, then_refuses}
use Rattle.go_pstmt.specs.Statements.{position_of}
use Rattle.go_pstmt.proofs.Lefts.{by_block, by_call, by_other, false_true}
use Rattle.go_pstmt.proofs.simple.alone.Goals as goal

pub returns-then-opens_block-clause-reads : goal.returns-then-opens_block-clause-reads
returns-then-opens_block-clause-reads c = λ before next alone range does.
    let f = c.if-opens_block.ensures.0 refl in
    let ts = left c.args.parser.now in
    record {
      by = by_block c.args.parser.now.edition (position_of c.args.position) true 0 (expr_of c.args.side) next alone before ts does f.0 f.1
          ∙ ap (λ (x : Expr). run_parser c.args.parser.now.edition 250 (alone (expr_of x)) ts) (sym c.in_ok-side.ensures.ok);
    }

pub returns-then-is_call-clause-reads : goal.returns-then-is_call-clause-reads
returns-then-is_call-clause-reads c = λ before next alone range does.
    then_makes c.stated.result (next (trees.call_statement (expr_of c.args.side)))
    (by_call c.args.parser.now.edition (position_of c.args.position) true 0 (expr_of c.args.side) next alone before (left c.args.parser.now) does (λ f. false_true (c.if-opens_block.ensures.1 f)) (sym c.if-is_call.ensures))
    (c.stated.ensures.ok next alone range) c.stated.ensures.err

pub returns-clause-reads : goal.returns-clause-reads
returns-clause-reads c = λ before next alone range does.
    let ts = left c.args.parser.now in
    then_refuses c.wrong.result (fault_of (expected_of c.behind_operand.result) ts)
    (by_other c.args.parser.now.edition (position_of c.args.position) true 0 (expr_of c.args.side) next alone before ts does (λ f. false_true (c.if-opens_block.ensures.1 f)) (sym c.if-is_call.ensures)
    ∙ ap (λ (x : Expected). Refused (fault_of x ts) ts) (sym c.behind_operand.ensures))
    c.wrong.ensures
