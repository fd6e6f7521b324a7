use Rattle.std.proofs.Common.{◌≡◌, List, ℕ, subst, sym, ap, length}
use Rattle.ws_reach.specs.Worklist.{Noted, AllBelow}
use Rattle.ws_reach.proofs.Marks.{marks_below}
use Rattle.ws_reach.proofs.worklists.Worklist.found.Goals as goal

pub returns-clause-below : goal.returns-clause-below
returns-clause-below c =
    let size : length c.self.inside.marks.items ≡ c.args.self.now.size = ap (λ (n : Noted). n.size) c.self.view_is in
    subst (λ (l : List ℕ). AllBelow c.args.self.now.size l) (sym c.as_slice.ensures.value)
    (subst (λ n. AllBelow n c.self.inside.found.items) size (marks_below c.self.inside.marks.items c.self.inside.found.items c.self.invariant))
