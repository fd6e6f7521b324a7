use Rattle.std.proofs.Common.{◌≡◌, ◌⊎◌, ℕ, length, sym, ap, ◌∙◌, subst, inl, inr, arith}
use Rattle.std.specs.Global.{Vec}
use Rattle.ws_reach.specs.Reach.{Edge, rows_of}
use Rattle.ws_reach.proofs.Reached.{contains_get, get_contains}
use Rattle.ws_reach.proofs.Turned.{Next, Turning, turning_next}
use Rattle.ws_reach.proofs.cycles.turn_row.Goals as goal
use Rattle.ws_reach.proofs.cycles.turn_row.Goals.{then-value_at+in_ok-add_edge, else-value_at}

pub add_edge-requires : goal.add_edge-requires
add_edge-requires c =
    let below = c.requires c.node_at-q.result (get_contains c.args.row.now c.loop-i.i c.node_at-q.result c.node_at-q.ensures) in
    omega (arith, below, c.loop-i.invariant.size)

pub loop-i-preserved : goal.loop-i-preserved
loop-i-preserved c =
    let now = rows_of c.loop-i.turned.items in
    let next = rows_of c.if-value_at.turned.items in
    let q = c.node_at-q.result in
    let inv = c.loop-i.invariant in
    let before : Turning (rows_of c.args.turned.now.items) now c.args.row.now c.args.roots.now c.args.p c.loop-i.i = record { stay = inv.stay; taken = inv.taken; from = inv.from } in
    let step : Next now next c.args.roots.now c.args.p q = elim c.if-value_at.branch [
      | then-value_at+in_ok-add_edge w ↦ inl (
        sym c.value_at.ensures ∙ w.if-value_at.true ∙ c.value_at-in-loop-i.ensures,
        subst (λ (t : Vec (Vec ℕ)). (y x : ℕ) → (Edge (rows_of t.items) y x → Edge now y x ⊎ ((y ≡ q) × (x ≡ c.args.p))) × (Edge now y x ⊎ ((y ≡ q) × (x ≡ c.args.p)) → Edge (rows_of t.items) y x)) (sym w.turned-is) w.in_ok-add_edge.ensures.edges,
      )
      | else-value_at w ↦ inr (ap (λ (t : Vec (Vec ℕ)). rows_of t.items) w.turned-is, λ a. w.if-value_at.false (c.value_at.ensures ∙ a ∙ sym c.value_at-in-loop-i.ensures))
    ] in
    let size : length c.if-value_at.turned.items ≡ length c.loop-i.turned.items = elim c.if-value_at.branch [
      | then-value_at+in_ok-add_edge w ↦ ap (λ (t : Vec (Vec ℕ)). length t.items) w.turned-is ∙ w.in_ok-add_edge.ensures.size
      | else-value_at w ↦ ap (λ (t : Vec (Vec ℕ)). length t.items) w.turned-is
    ] in
    let after = turning_next (rows_of c.args.turned.now.items) now next c.args.row.now c.args.roots.now c.args.p c.loop-i.i q c.node_at-q.ensures step before in
    record { size = size ∙ inv.size; stay = after.stay; taken = after.taken; from = after.from }

pub returns-clause-taken : goal.returns-clause-taken
returns-clause-taken c = λ q k a. c.loop-i.invariant.taken k.0 q (let lt = k.1 in omega (arith, lt, c.loop-i-test.false)) (contains_get c.args.row.now q k) a
