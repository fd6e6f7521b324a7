use Rattle.std.proofs.Common.{◌≡◌, ◌⊎◌, ℕ, ◌∙◌, subst, inl, arith}
use Rattle.std.specs.Prelude.{◌↔◌}
use Rattle.ws_reach.specs.Reach.{Edge, rows_of}
use Rattle.ws_reach.proofs.Rows.{length-rows}
use Rattle.go_init.specs.Condensation.{HasOther}
use Rattle.go_init.proofs.Waiting.{condensing_end, condensing_next, source_inside}
use Rattle.go_init.proofs.condensation.condensed.Goals as goal

pub loop-node-init : goal.loop-node-init
loop-node-init c = record {
  size = c.in_ok-waits.ensures.size;
  condensing = record {
    stay = λ p q w. (c.in_ok-waits.ensures.edges p q).1 w;
    from = λ p q e. inl ((c.in_ok-waits.ensures.edges p q).0 e);
    taken = λ node number row q lt. absurd (omega (arith, lt));
  };
}

pub wait_for_row-requires-clause-source : goal.wait_for_row-requires-clause-source
wait_for_row-requires-clause-source c =
    let size = c.requires.size in
    let in_rows = source_inside c.args.count c.args.roots.now c.loop-node.node c.renumbered.result (omega (arith, c.loop-node-test.true, size)) c.requires.inside c.renumbered.ensures in
    omega (arith, in_rows, size, c.source_at-source.ensures, c.loop-node.invariant.size)

pub wait_for_row-requires-clause-below : goal.wait_for_row-requires-clause-below
wait_for_row-requires-clause-below c = λ q k. (
    let below = c.requires.within c.loop-node.node q (c.row_at.result.now, c.row_at.ensures, k) in
    omega (arith, below, c.loop-node.invariant.size, length-rows c.args.rows.now))

pub loop-node-preserved : goal.loop-node-preserved
loop-node-preserved c =
    let now = rows_of c.loop-node.waits.items in
    let next = rows_of c.wait_for_row.new.waits.items in
    let roots = c.args.roots.now in
    let row = c.row_at.result.now in
    let number = c.renumbered.result in
    let inv = c.loop-node.invariant in
    let ens = c.in_ok-wait_for_row.ensures in
    let added = subst (λ z. (p q : ℕ) → Edge next p q ↔ (Edge now p q ⊎ ((p ≡ z) × HasOther c.args.count roots row z q))) c.source_at-source.ensures ens.edges in
    record {
      size = ens.size ∙ inv.size;
      condensing = condensing_next (rows_of c.args.rows.now) now next c.args.count roots c.loop-node.node number row c.row_at.ensures c.renumbered.ensures added inv.condensing;
    }

pub returns-clause-edges : goal.returns-clause-edges
returns-clause-edges c =
    condensing_end (rows_of c.args.rows.now) (rows_of c.loop-node.waits.items) c.args.count c.args.roots.now c.loop-node.node (omega (arith, c.loop-node-test.false, length-rows c.args.rows.now)) c.loop-node.invariant.condensing
