use Rattle.std.proofs.Common.{arith, ◌++◌}
use Rattle.goset_cli.proofs.Texts.{next_front, all_taken, text_missing, empty_is}
use Rattle.goset_cli.proofs.running.split_text.Goals as goal
use Rattle.goset_cli.proofs.running.split_text.Goals.{then-lines-test+else-not-is_empty, else-lines-test}

pub lines-preserved : goal.lines-preserved
lines-preserved c =
    let cut = c.cut_line.ensures in
    (c.lines.invariant.0 ++ c.cut_line.result.0.now, next_front _ _ _ _ _ _ _ c.lines.invariant.1 c.lines-test.true cut.whole cut.line cut.some cut.ended)

pub returns-then-left-gt0-clause-text : goal.returns-then-left-gt0-clause-text
returns-then-left-gt0-clause-text c =
    elim c.lines-test.branch [
      | then-lines-test+else-not-is_empty w ↦ text_missing _ _ _ _ _ c.lines.invariant.1 c.if-left-gt0.true (empty_is w.is_empty.result _ w.is_empty.ensures w.if-not-is_empty.false)
      | else-lines-test w ↦ absurd (omega arith)
    ]

pub returns-then-left-gt0-clause-lines : goal.returns-then-left-gt0-clause-lines
returns-then-left-gt0-clause-lines c = (c.lines.invariant.0, (c.lines.invariant.1.whole, c.lines.invariant.1.ended))

pub returns-clause-text : goal.returns-clause-text
returns-clause-text c = all_taken _ _ _ _ _ _ _ c.lines.invariant.1 (omega (arith, c.if-left-gt0.false)) c.split_at.ensures.front c.in_ok-closed.ensures

pub returns-clause-lines : goal.returns-clause-lines
returns-clause-lines c = (c.lines.invariant.0, (c.lines.invariant.1.whole, c.lines.invariant.1.ended))
