use Rattle.std.proofs.Common.{◌∙◌}
use Rattle.ws_session.proofs.Paths.{one_more}
use Rattle.ws_session.proofs.clock.paths_at.Goals as goal

pub loop-key-preserved : goal.loop-key-preserved
loop-key-preserved c =
    let path = rw c.in-Some.is at c.in_ok-path.ensures in
    one_more c.args.keys.now c.loop-key.key-index c.key-item.result c.in-Some.path c.loop-key.paths.items c.push.new.self.items c.loop-key-test.true c.key-item.is (path.1 ∙ c.bytes.ensures) c.in_ok-push.ensures.items
    c.loop-key.invariant
