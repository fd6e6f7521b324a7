use Rattle.std.proofs.Common.{◌≡◌, ℕ, List, length, ap, sym, subst, ◌∙◌, arith}
use Rattle.std.specs.List.{Contains}
use Rattle.ws_reach.specs.Worklist.{Noted, is_marked}
use Rattle.ws_reach.proofs.worklists.Worklist.is_full.Goals as goal

pub returns : goal.returns
returns c =
    let size : length c.self.inside.marks.items ≡ c.args.self.now.size = ap (λ (n : Noted). n.size) c.self.view_is in
    let found : c.self.inside.found.items ≡ c.args.self.now.found = ap (λ (n : Noted). n.found) c.self.view_is in
    let len : length c.as_slice.result.now ≡ length c.self.inside.marks.items = ap length c.as_slice.ensures.value in
    λ t q lt. subst (λ (l : List ℕ). Contains l q) found (c.self.invariant.back q (sym (ap (λ l. is_marked l q) c.as_slice.ensures.value) ∙ c.are_all.ensures t q (omega (arith, lt, size, len))))
