use Rattle.std.proofs.Common.{ℕ, List, slice_index, ◌∙◌, subst, inl, inr, arith}
use Rattle.std.specs.List.{Contains}
use Rattle.ws_reach.specs.Reach.{Edge, Reaches, rows_of}
use Rattle.ws_reach.proofs.Reached.{get_contains, reaches_more}
use Rattle.ws_reach.proofs.Rows.{length-rows}
use Rattle.ws_reach.proofs.cycles.are_reached.Goals as goal

pub row_at-requires : goal.row_at-requires
row_at-requires c =
    let at = get_contains c.found-in-loop-next.result.now c.loop-next.next c.node_at-here.result c.node_at-here.ensures in
    let below = c.found-in-loop-next.ensures.below c.node_at-here.result at in
    omega (arith, below, c.loop-next.invariant.size)

pub add_alike-requires : goal.add_alike-requires
add_alike-requires c = λ q k. (
    let below = c.requires c.node_at-here.result q (c.row_at.result.now, c.row_at.ensures, k) in
    omega (arith, below, c.loop-next.invariant.size, length-rows c.args.rows.now))

pub loop-next-preserved : goal.loop-next-preserved
loop-next-preserved c =
    let E = Edge (rows_of c.args.rows.now) in
    let here = c.node_at-here.result in
    let roots = c.args.roots.now in
    let ens = c.in_ok-add_alike.ensures in
    let met : Contains c.loop-next.met.found here = subst (λ (l : List ℕ). Contains l here) c.found-in-loop-next.ensures.value (get_contains c.found-in-loop-next.result.now c.loop-next.next here c.node_at-here.ensures) in
    record {
      size = ens.size ∙ c.loop-next.invariant.size;
      reached = λ x k. elim (ens.from x k) [
        | inl old ↦ c.loop-next.invariant.reached x old
        | inr new ↦ subst (λ r. Reaches E r x) new.1 (reaches_more E (slice_index roots here) here x (c.loop-next.invariant.reached here met) (c.row_at.result.now, c.row_at.ensures, new.0))
      ];
    }
