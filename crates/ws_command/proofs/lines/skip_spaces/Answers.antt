use Rattle.std.proofs.Common.{arith, ◌∙◌, ap}
use Rattle.ws_command.specs.Lines.{words_of}
use Rattle.ws_command.proofs.Words.{spaces_skipped, all_spaces}
use Rattle.ws_command.proofs.lines.skip_spaces.Goals as goal

pub returns-then-line-i-ne32-clause-same : goal.returns-then-line-i-ne32-clause-same
returns-then-line-i-ne32-clause-same c = ap words_of c.split_at.ensures.back ∙ spaces_skipped c.args.line.now c.loop-i.i c.loop-i.invariant

pub returns-clause-same : goal.returns-clause-same
returns-clause-same c = all_spaces c.args.line.now (λ k h. c.loop-i.invariant k (omega (arith, c.loop-i-test.false)))
