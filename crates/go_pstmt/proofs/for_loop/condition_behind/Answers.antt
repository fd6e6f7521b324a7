use Rattle.std.proofs.Common.{refl}
use Rattle.go_ast.specs.Machine.{for_turns}
use Rattle.go_ast.specs.Views.{simple_of, if_boxed}
use Rattle.go_pexpr.proofs.Reading.{then_fails, then_reads}
use Rattle.go_pstmt.proofs.for_loop.condition_behind.Goals as goal

pub returns-in_err-condition-clause-reads : goal.returns-in_err-condition-clause-reads
returns-in_err-condition-clause-reads c = λ p next.
    then_fails refl (c.in_err-condition.ensures.reads (for_turns c.args.level p next (if_boxed simple_of c.args.init))) c.from_residual.ensures.1

pub returns-clause-reads : goal.returns-clause-reads
returns-clause-reads c = λ p next.
    then_reads c.turns_behind.result (c.in_ok-condition.ensures.reads (for_turns c.args.level p next (if_boxed simple_of c.args.init))).by (c.turns_behind.ensures.reads p next)
