use Rattle.std.proofs.Common.{sym, subst}
use Rattle.ws_shared.specs.Counts.{Counts}
use Rattle.ws_shared.specs.Workers.{BoardInvariant}
use Rattle.ws_shared.proofs.Keeping.{finished_own, kept_finish}
use Rattle.ws_shared.proofs.locked.Locked.finish.Goals as goal

pub invariant_of-self-2 : goal.invariant_of-self-2
invariant_of-self-2 g c =
    let b = c.self.inside.board in
    let now = c.finish.new.self in
    let task = c.args.task in
    let own = c.in_ok-finish.ensures.own (finished_own g.L.Desk.opening b c.args.entry task.action c.self.invariant.opened c.requires.fits c.requires.own) in
    subst (λ (k : Counts). BoardInvariant g.L.Desk.opening k now) (sym c.add.ensures.total) (kept_finish g.L.Desk.opening c.self.inside.books b now c.args.hand.now task.job c.in_ok-finish.ensures.step own c.self.invariant)
