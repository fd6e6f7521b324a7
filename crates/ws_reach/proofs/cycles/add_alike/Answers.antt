use Rattle.std.proofs.Common.{◌≡◌, sym, ap, ◌∙◌, subst, inl, inr, arith}
use Rattle.std.specs.List.{Contains}
use Rattle.ws_reach.specs.Components.{AreAlike}
use Rattle.ws_reach.specs.Worklist.{Noted}
use Rattle.ws_reach.proofs.Marks.{contains_one}
use Rattle.ws_reach.proofs.Reached.{get_contains}
use Rattle.ws_reach.proofs.cycles.add_alike.Goals as goal
use Rattle.ws_reach.proofs.cycles.add_alike.Goals.{then-value_at+in_ok-add_all, else-value_at}

pub add_all-requires : goal.add_all-requires
add_all-requires c = λ q k. (
    let x = c.node_at-x.result in
    let below = c.requires x (get_contains c.args.row.now c.loop-i.i x c.node_at-x.ensures) in
    let it = contains_one q x k in
    omega (arith, below, it, c.loop-i.invariant.size))

pub loop-i-preserved : goal.loop-i-preserved
loop-i-preserved c =
    let x = c.node_at-x.result in
    let inv = c.loop-i.invariant in
    let here = get_contains c.args.row.now c.loop-i.i x c.node_at-x.ensures in
    elim c.if-value_at.branch [
      | then-value_at+in_ok-add_all w ↦ record {
        size = ap (λ (n : Noted). n.size) w.met-is ∙ w.in_ok-add_all.ensures.size ∙ inv.size;
        from = λ y k. elim (w.in_ok-add_all.ensures.from y (subst (λ (n : Noted). Contains n.found y) w.met-is k)) [
          | inl old ↦ inv.from y old
          | inr one ↦ inr (
              let it : x ≡ y = sym (contains_one y x one) in
              let alike : AreAlike c.args.roots.now c.args.here x = sym c.value_at.ensures ∙ w.if-value_at.true ∙ c.value_at-in-loop-i.ensures in
              (subst (Contains c.args.row.now) it here, subst (AreAlike c.args.roots.now c.args.here) it alike))
        ];
      }
      | else-value_at w ↦ record {
        size = ap (λ (n : Noted). n.size) w.met-is ∙ inv.size;
        from = λ y k. inv.from y (subst (λ (n : Noted). Contains n.found y) w.met-is k);
      }
    ]
