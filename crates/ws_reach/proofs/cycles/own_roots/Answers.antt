use Rattle.std.proofs.Common.{◌≡◌, slice_index, sym, ap, ◌∙◌, subst, inl, inr}
use Rattle.std.specs.List.{Contains}
use Rattle.ws_reach.specs.Worklist.{Noted}
use Rattle.ws_reach.proofs.Marks.{contains_one}
use Rattle.ws_reach.proofs.cycles.own_roots.Goals as goal
use Rattle.ws_reach.proofs.cycles.own_roots.Goals.{then-value_at-x+in_ok-add_all, else-value_at-x}

pub loop-x-preserved : goal.loop-x-preserved
loop-x-preserved c =
    let x = c.loop-x.x in
    let inv = c.loop-x.invariant in
    elim c.if-value_at-x.branch [
      | then-value_at-x+in_ok-add_all w ↦ record {
        size = ap (λ (n : Noted). n.size) w.met-is ∙ w.in_ok-add_all.ensures.size ∙ inv.size;
        own = λ y k. elim (w.in_ok-add_all.ensures.from y (subst (λ (n : Noted). Contains n.found y) w.met-is k)) [
          | inl old ↦ inv.own y old
          | inr one ↦ (
              let it : x ≡ y = sym (contains_one y x one) in
              let here : slice_index c.args.roots.now x ≡ x = sym c.value_at.ensures ∙ w.if-value_at-x.true in
              subst (λ z. slice_index c.args.roots.now z ≡ z) it here)
        ];
      }
      | else-value_at-x w ↦ record {
        size = ap (λ (n : Noted). n.size) w.met-is ∙ inv.size;
        own = λ y k. inv.own y (subst (λ (n : Noted). Contains n.found y) w.met-is k);
      }
    ]
