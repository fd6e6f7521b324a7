use Rattle.std.proofs.Common.{true}
use Rattle.go_ast.specs.Expected.{an_operand}
use Rattle.go_ast.specs.Machine.{expr}
use Rattle.go_pexpr.proofs.Reading.{then_fails}
use Rattle.go_pstmt.proofs.simple.range.Goals as goal

pub returns-in_err-operand-clause-reads : goal.returns-in_err-operand-clause-reads
returns-in_err-operand-clause-reads c = λ n next alone range e.
    then_fails (c.in_ok-expect.ensures.reads (λ _. expr 5 true c.args.level an_operand (λ e. range n e))).by
    (c.in_err-operand.ensures.reads (λ e. range n e)) c.from_residual-in_err-operand.ensures.1
