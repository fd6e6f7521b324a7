use Rattle.std.proofs.Common.{◌≡◌, ◌⊎◌, ℕ, length, slice_index, sym, ap, ◌∙◌, subst, inl, inr, arith}
use Rattle.std.specs.Prelude.{◌↔◌}
use Rattle.std.specs.Global.{Vec}
use Rattle.std.proofs.lemmas.Option.{get_or_from_slice_get}
use Rattle.ws_reach.specs.Reach.{Edge, rows_of}
use Rattle.go_init.proofs.Waiting.{NextRoot, to_roots_next}
use Rattle.go_init.proofs.condensation.edges_to_roots.Goals as goal
use Rattle.go_init.proofs.condensation.edges_to_roots.Goals.{then-root-function+in_ok-add_edge, else-root-function}

pub loop-function-init : goal.loop-function-init
loop-function-init c = record {
  size = c.in_ok-waits.ensures.size;
  edges = λ p q. (λ e. absurd (c.in_ok-waits.ensures.none p q e), λ h. (let lt = h.0 in absurd (omega (arith, lt))));
}

pub loop-function-preserved : goal.loop-function-preserved
loop-function-preserved c =
    let now = rows_of c.loop-function.waits.items in
    let next = rows_of c.if-root-function.waits.items in
    let roots = c.args.roots.now in
    let f = c.loop-function.function in
    let root = c.node_at-root.result in
    let is : slice_index roots f ≡ root = get_or_from_slice_get roots f root 0 c.node_at-root.ensures in
    let step : NextRoot now next roots f = elim c.if-root-function.branch [
      | then-root-function+in_ok-add_edge w ↦ inl (
        λ own. w.if-root-function.true (sym is ∙ own),
        subst (λ z. (p q : ℕ) → Edge next p q ↔ (Edge now p q ⊎ ((p ≡ f) × (q ≡ z)))) (sym is)
            (subst (λ (t : Vec (Vec ℕ)). (p q : ℕ) → Edge (rows_of t.items) p q ↔ (Edge now p q ⊎ ((p ≡ f) × (q ≡ root)))) (sym w.waits-is) w.in_ok-add_edge.ensures.edges),
      )
      | else-root-function w ↦ inr (ap (λ (t : Vec (Vec ℕ)). rows_of t.items) w.waits-is, is ∙ w.if-root-function.false)
    ] in
    let size : length c.if-root-function.waits.items ≡ length c.loop-function.waits.items = elim c.if-root-function.branch [
      | then-root-function+in_ok-add_edge w ↦ ap (λ (t : Vec (Vec ℕ)). length t.items) w.waits-is ∙ w.in_ok-add_edge.ensures.size
      | else-root-function w ↦ ap (λ (t : Vec (Vec ℕ)). length t.items) w.waits-is
    ] in
    record { size = size ∙ c.loop-function.invariant.size; edges = to_roots_next now next roots f c.loop-function-test.true step c.loop-function.invariant.edges }

pub returns-clause-edges : goal.returns-clause-edges
returns-clause-edges c = λ p q. (
  λ e. ((c.loop-function.invariant.edges p q).0 e).1,
  λ w. (c.loop-function.invariant.edges p q).1 (let lt = w.0 in omega (arith, lt, c.loop-function-test.false), w),
)
