use Rattle.std.proofs.Common.{sym, subst}
use Rattle.ws_shared.specs.Counts.{Counts}
use Rattle.ws_shared.specs.Workers.{BoardInvariant}
use Rattle.ws_shared.proofs.Keeping.{kept_back}
use Rattle.ws_shared.proofs.locked.Locked.back.Goals as goal

pub invariant_of-self-2 : goal.invariant_of-self-2
invariant_of-self-2 g c =
    let now = c.try_back.new.self in
    subst (λ (k : Counts). BoardInvariant g.L.Desk.opening k now) (sym c.add.ensures.total) (kept_back g.L.Desk.opening c.self.inside.books c.self.inside.board now c.args.hand.now c.args.task.job c.if-not-try_back.ensures.back c.self.invariant)
