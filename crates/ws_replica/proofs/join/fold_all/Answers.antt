use Rattle.std.proofs.Common.{◌∙◌}
use Rattle.ws_replica.proofs.JoinedLists.{joined_next}
use Rattle.ws_replica.proofs.join.fold_all.Goals as goal

pub loop-other-preserved : goal.loop-other-preserved
loop-other-preserved g c =
    joined_next g.J.Join.joined c.args.others.now c.loop-other.other-index c.other-item.result c.loop-other.all c.merge.new.self c.loop-other-test.true c.other-item.is c.in_ok-merge.ensures.ok ∙ c.loop-other.invariant
