use Rattle.std.proofs.Common.{◌++◌, ap}
use Rattle.ws_register.proofs.Walks.{skip-turned}
use Rattle.ws_register.proofs.merge.take_both.Goals as goal

pub returns-then-skip_known-2-clause-joined : goal.returns-then-skip_known-2-clause-joined
returns-then-skip_known-2-clause-joined c =
    ap (λ l. c.args.draft.now ++ l)
    (skip-turned c.args.mine.now c.skip_known-2.new.self c.args.theirs.now c.skip_known.new.self c.skip_known-2.ensures.joined (c.skip_known.ensures.same c.if-skip_known.false))
