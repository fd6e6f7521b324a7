use Rattle.std.proofs.Common.{arith, ◌∙◌}
use Rattle.std.proofs.lemmas.Option.{slice_get_within}
use Rattle.ws_reach.specs.Reach.{rows_of}
use Rattle.ws_reach.proofs.Rows.{length-rows}
use Rattle.ws_reach.proofs.Turned.{turned_next, Turned}
use Rattle.ws_reach.proofs.cycles.edges_within.Goals as goal

pub loop-p-init : goal.loop-p-init
loop-p-init c = record {
  size = c.in_ok-turned.ensures.size;
  from = λ q x e. absurd (c.in_ok-turned.ensures.none q x e);
  taken = λ q x lt. absurd (omega (arith, lt));
}

pub turn_row-requires : goal.turn_row-requires
turn_row-requires c = λ q k. (
    let below = c.requires c.loop-p.p q (c.row_at.result.now, c.row_at.ensures, k) in
    omega (arith, below, c.loop-p.invariant.size, length-rows c.args.rows.now))

pub loop-p-preserved : goal.loop-p-preserved
loop-p-preserved c =
    let rows = rows_of c.args.rows.now in
    let now = rows_of c.loop-p.turned.items in
    let next = rows_of c.turn_row.new.turned.items in
    let inv = c.loop-p.invariant in
    let ens = c.in_ok-turn_row.ensures in
    let before : Turned rows now c.args.roots.now c.loop-p.p = record { from = inv.from; taken = inv.taken } in
    let after = turned_next rows now next c.args.roots.now c.loop-p.p c.row_at.result.now c.row_at.ensures ens.stay ens.taken ens.from before in
    record { size = ens.size ∙ inv.size; from = after.from; taken = after.taken }

pub returns-clause-edges : goal.returns-clause-edges
returns-clause-edges c =
    let rows = rows_of c.args.rows.now in
    let inv = c.loop-p.invariant in
    λ q p. (inv.from q p, λ h. inv.taken q p (let lt = slice_get_within rows p h.0.0 h.0.1 in omega (arith, lt, length-rows c.args.rows.now, c.loop-p-test.false)) h.0 h.1)
