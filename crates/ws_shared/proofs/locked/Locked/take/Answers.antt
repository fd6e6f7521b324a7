use Rattle.std.proofs.Common.{◌∙◌, ℕ, ap, sym, subst}
use Rattle.ws_shared.specs.Counts.{Counts}
use Rattle.ws_shared.specs.Workers.{with_taken, BoardInvariant}
use Rattle.ws_shared.proofs.Keeping.{taken_own, kept_take}
use Rattle.ws_shared.proofs.locked.Locked.take.Goals as goal

pub invariant_of-self-2 : goal.invariant_of-self-2
invariant_of-self-2 g c =
    let books = c.self.inside.books in
    let t = c.in_ok-taken.taken in
    let total = c.count_taken.ensures.total ∙ ap (λ (h : ℕ). with_taken h t books) c.number.ensures in
    subst (λ (k : Counts). BoardInvariant g.L.Desk.opening k c.take.new.self) (sym total) (kept_take g.L.Desk.opening books c.self.inside.board c.take.new.self c.args.hand.now t c.in_ok-taken.ensures.step c.self.invariant)

pub returns-clause-own : goal.returns-clause-own
returns-clause-own g c = taken_own g.L.Desk.opening c.self.inside.books c.self.inside.board c.in_ok-taken.taken c.in_ok-taken.ensures.own c.self.invariant
