use Rattle.std.proofs.Common.{◌∙◌}
use Rattle.ws_replica.proofs.JoinedLists.{settled-replicate}
use Rattle.ws_replica.proofs.join.settle_all.Goals as goal

pub returns-clause-ok : goal.returns-clause-ok
returns-clause-ok g c =
    c.swap_with_slice.ensures.after ∙ c.as_mut_slice.ensures.value ∙ c.in_ok-copies.ensures ∙ settled-replicate g.J.Join.joined c.args.all.now c.in_ok-joined.joined c.in_ok-joined.ensures
