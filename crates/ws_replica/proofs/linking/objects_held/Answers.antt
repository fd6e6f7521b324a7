use Rattle.std.proofs.Common.{subst}
use Rattle.std.specs.Prelude.{MatchOption}
use Rattle.std.specs.Arc.{arc_value}
use Rattle.ws_replica.specs.Stopped.{IsObjectAt, LacksObjectAt}
use Rattle.ws_replica.proofs.Steps.{objects_next}
use Rattle.ws_replica.proofs.linking.objects_held.Goals as goal

pub loop-job-preserved : goal.loop-job-preserved
loop-job-preserved c =
    let here : IsObjectAt c.args.board.now c.loop-job.job (arc_value c.in-Some.object) =
    subst (λ o. MatchOption o (LacksObjectAt c.args.board.now c.loop-job.job) (λ object. IsObjectAt c.args.board.now c.loop-job.job (arc_value object))) c.in-Some.is c.in_ok-object.ensures in
    objects_next arc_value c.args.board.now c.loop-job.job c.loop-job.objects.items c.push.new.self.items c.in-Some.object c.in_ok-push.ensures.items here c.loop-job.invariant
