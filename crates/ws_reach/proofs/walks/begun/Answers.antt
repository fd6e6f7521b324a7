use Rattle.std.proofs.Common.{sym, ap, arith, inl, inr}
use Rattle.ws_reach.specs.Worklist.{Noted}
use Rattle.ws_reach.proofs.Marks.{contains_none, contains_one}
use Rattle.ws_reach.proofs.walks.begun.Goals as goal

pub returns-clause-only : goal.returns-clause-only
returns-clause-only c = λ q. (
  λ k. elim (c.in_ok-add_all.ensures.from q k) [
    | inl old ↦ absurd (contains_none c.in_ok-met.met.found (ap (λ (n : Noted). n.found) c.in_ok-met.ensures) q old)
    | inr new ↦ contains_one q c.args.start new
  ],
  λ e. c.in_ok-add_all.ensures.taken q (0, omega arith, sym e),
)
