use Rattle.std.proofs.Common.{arith}
use Rattle.ws_command.proofs.Words.{word_at, last_word, not_first}
use Rattle.ws_command.proofs.lines.cut_word.Goals as goal

pub returns-then-line-i-eq32 : goal.returns-then-line-i-eq32
returns-then-line-i-eq32 c =
    word_at c.args.line.now c.loop-i.i c.loop-i.invariant (omega arith) c.if-line-i-eq32.true (not_first c.args.line.now c.loop-i.i c.requires.word c.if-line-i-eq32.true) _ _ c.split_at.ensures.front c.split_at.ensures.back

pub returns : goal.returns
returns c = last_word c.args.line.now c.requires.some (λ k h. c.loop-i.invariant k (omega (arith, c.loop-i-test.false))) _ _ c.split_at-2.ensures.front c.split_at-2.ensures.back
