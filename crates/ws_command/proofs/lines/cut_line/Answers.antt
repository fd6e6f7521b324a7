use Rattle.std.proofs.Common.{arith}
use Rattle.ws_command.proofs.Cuts.{ended_line, open_line}
use Rattle.ws_command.proofs.lines.cut_line.Goals as goal

pub returns-then-rest-i-eq10-clause-line : goal.returns-then-rest-i-eq10-clause-line
returns-then-rest-i-eq10-clause-line c = ended_line c.args.rest.now c.loop-i.i c.loop-i.invariant (omega arith) c.if-rest-i-eq10.true _ _ c.split_at.ensures.front c.split_at.ensures.back

pub returns-clause-line : goal.returns-clause-line
returns-clause-line c = open_line c.args.rest.now c.requires (λ k h. c.loop-i.invariant k (omega (arith, c.loop-i-test.false))) _ _ c.split_at-2.ensures.front c.split_at-2.ensures.back
