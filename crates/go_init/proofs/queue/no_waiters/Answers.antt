use Rattle.std.proofs.Common.{◌∷◌, [], length, ap, ◌∙◌, arith, subst}
use Rattle.std.proofs.lemmas.List.{length-append}
use Rattle.go_init.specs.Queues.{IsAt}
use Rattle.go_init.proofs.Waiters.{none_at}
use Rattle.go_init.proofs.queue.no_waiters.Goals as goal

pub loop-preserved : goal.loop-preserved
loop-preserved c =
    let pushed = c.in_ok-push.ensures.items in
    record {
      count = ap length pushed ∙ omega (arith, length-append c.loop.lists.items (c.new.result ∷ []), c.loop.invariant.count);
      none = λ j w h. none_at c.loop.lists.items c.new.result c.new.ensures.items c.loop.invariant.none j w (subst (λ l. IsAt l j w) pushed h);
    }
