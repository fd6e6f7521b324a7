use Rattle.std.proofs.Common.{◌≡◌, ◌⊎◌, ℕ, true, false, length, sym, ap, ◌∙◌, subst, inl, inr, arith}
use Rattle.std.specs.Prelude.{◌↔◌}
use Rattle.std.specs.Global.{Vec}
use Rattle.ws_reach.specs.Reach.{Edge, rows_of}
use Rattle.ws_reach.proofs.Reached.{get_contains}
use Rattle.go_init.proofs.Waiting.{NextWaiting, waiting_end, waiting_next}
use Rattle.go_init.proofs.condensation.wait_for_row.Goals as goal
use Rattle.go_init.proofs.condensation.wait_for_row.Goals.{then-not-has_root+in_ok-add_edge, else-not-has_root}

pub renumbered-number-requires-clause-node : goal.renumbered-number-requires-clause-node
renumbered-number-requires-clause-node c =
    let below = c.requires.below c.node_at.result (get_contains c.args.row.now c.loop-i.i c.node_at.result c.node_at.ensures) in
    let size = c.requires.size in
    omega (arith, below, size)

pub loop-i-preserved : goal.loop-i-preserved
loop-i-preserved c =
    let now = rows_of c.loop-i.waits.items in
    let next = rows_of c.if-not-has_root.waits.items in
    let roots = c.args.roots.now in
    let source = c.args.source in
    let number = c.renumbered-number.result in
    let inv = c.loop-i.invariant in
    let step : NextWaiting now next roots source number = elim c.if-not-has_root.branch [
      | then-not-has_root+in_ok-add_edge w ↦ inl (
        λ h. (let t : c.has_root.result ≡ true = c.has_root.ensures.1 h in let f = w.if-not-has_root.true in let no : true ≡ false = sym t ∙ f in cc (no)),
        subst (λ (t : Vec (Vec ℕ)). (p q : ℕ) → Edge (rows_of t.items) p q ↔ (Edge now p q ⊎ ((p ≡ source) × (q ≡ number)))) (sym w.waits-is) w.in_ok-add_edge.ensures.edges,
      )
      | else-not-has_root w ↦ (let own = c.has_root.ensures.0 w.if-not-has_root.false in inr (ap (λ (t : Vec (Vec ℕ)). rows_of t.items) w.waits-is, own.0, own.1))
    ] in
    let size : length c.if-not-has_root.waits.items ≡ length c.loop-i.waits.items = elim c.if-not-has_root.branch [
      | then-not-has_root+in_ok-add_edge w ↦ ap (λ (t : Vec (Vec ℕ)). length t.items) w.waits-is ∙ w.in_ok-add_edge.ensures.size
      | else-not-has_root w ↦ ap (λ (t : Vec (Vec ℕ)). length t.items) w.waits-is
    ] in
    record {
      size = size ∙ inv.size;
      waiting = waiting_next (rows_of c.args.waits.now.items) now next c.args.count roots c.args.row.now source c.loop-i.i c.node_at.result number c.node_at.ensures c.renumbered-number.ensures step inv.waiting;
    }

pub returns-clause-edges : goal.returns-clause-edges
returns-clause-edges c =
    waiting_end (rows_of c.args.waits.now.items) (rows_of c.loop-i.waits.items) c.args.count c.args.roots.now c.args.row.now c.args.source c.loop-i.i (omega (arith, c.loop-i-test.false)) c.loop-i.invariant.waiting
