use Rattle.std.proofs.Common.{◌≡◌, ◌≤◌, ℕ, List, Some, length, sym, ap, ◌∙◌, subst, refl, arith}
use Rattle.std.specs.List.{slice_get, Contains}
use Rattle.ws_reach.specs.Reach.{Edge, rows_of, Reaches}
use Rattle.ws_reach.proofs.Rows.{length-rows, edge_here, edge_of}
use Rattle.ws_reach.proofs.Reached.{get_contains, walked_start, walked_more, walked_end}
use Rattle.ws_reach.proofs.walks.walk.Goals as goal

pub loop-next-init : goal.loop-next-init
loop-next-init c = record {
  size = c.in_ok-met.ensures.size;
  walked = walked_start (Edge (rows_of c.args.rows.now)) c.args.start c.in_ok-met.met.found ((c.in_ok-met.ensures.only c.args.start).1 refl) (λ x k. (c.in_ok-met.ensures.only x).0 k);
}

pub row_at-requires : goal.row_at-requires
row_at-requires c =
    let at = get_contains c.found-in-loop-next.result.now c.loop-next.next c.node_at-here.result c.node_at-here.ensures in
    let below = c.found-in-loop-next.ensures.below c.node_at-here.result at in
    omega (arith, below, c.loop-next.invariant.size)

pub add_all-requires : goal.add_all-requires
add_all-requires c =
    let rows = rows_of c.args.rows.now in
    λ q k. (
    let below = c.requires.within c.node_at-here.result q (c.row_at.result.now, c.row_at.ensures, k) in
    omega (arith, below, c.loop-next.invariant.size, length-rows c.args.rows.now))

pub loop-next-preserved : goal.loop-next-preserved
loop-next-preserved c =
    let rows = rows_of c.args.rows.now in
    let here = c.node_at-here.result in
    let ens = c.in_ok-add_all.ensures in
    let at : slice_get c.loop-next.met.found c.loop-next.next ≡ Some here = sym (ap (λ (l : List ℕ). slice_get l c.loop-next.next) c.found-in-loop-next.ensures.value) ∙ c.node_at-here.ensures in
    record {
      size = ens.size ∙ c.loop-next.invariant.size;
      walked = walked_more (Edge rows) c.args.start c.loop-next.next here c.loop-next.met.found c.add_all.new.self.found c.loop-next.invariant.walked at ens.grows
          (λ x k. edge_here rows here c.row_at.result.now c.row_at.ensures c.loop-next.met.found x (ens.from x k))
          (λ x e. ens.taken x (edge_of rows here c.row_at.result.now c.row_at.ensures x e));
    }

pub returns : goal.returns
returns c =
    let end : length c.loop-next.met.found ≤ c.loop-next.next = (let e : length c.found.result.now ≡ length c.loop-next.met.found = ap length c.found.ensures.value in omega (arith, e, c.loop-next-test.false)) in
    subst (λ (l : List ℕ). (q : ℕ) → (Contains l q → Reaches (Edge (rows_of c.args.rows.now)) c.args.start q) × (Reaches (Edge (rows_of c.args.rows.now)) c.args.start q → Contains l q)) (sym c.into_found.ensures)
    (walked_end (Edge (rows_of c.args.rows.now)) c.args.start c.loop-next.next c.loop-next.met.found c.loop-next.invariant.walked end)
