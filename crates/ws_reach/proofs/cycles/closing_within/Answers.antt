use Rattle.std.proofs.Common.{◌≡◌, ◌<◌, ℕ, length, sym, ap, ◌∙◌, subst, arith}
use Rattle.std.specs.Prelude.{slice_index, List}
use Rattle.std.specs.Global.{Vec}
use Rattle.ws_reach.specs.Components.{LeadsDown}
use Rattle.ws_reach.specs.Reach.{Edge, Reaches, EdgesStayWithin, rows_of}
use Rattle.ws_reach.proofs.Components.{closing_are, closing_stay}
use Rattle.ws_reach.proofs.Rows.{length-rows}
use Rattle.ws_reach.proofs.cycles.closing_within.Goals as goal

pub are_reached-requires-2 : goal.are_reached-requires-2
are_reached-requires-2 c =
    let ens = c.in_ok-closing.ensures in
    subst (λ (l : List (Vec ℕ)). EdgesStayWithin (rows_of l)) (sym c.as_slice.ensures.value)
    (closing_stay (rows_of c.args.rows.now) (rows_of c.in_ok-closing.closing.items) c.args.roots.now (length-rows c.in_ok-closing.closing.items ∙ ens.size ∙ sym (length-rows c.args.rows.now)) ens.edges)

pub returns : goal.returns
returns c =
    let rows = rows_of c.args.rows.now in
    let roots = c.args.roots.now in
    let closing = rows_of c.in_ok-closing.closing.items in
    let down : (p q : ℕ) → Edge rows p q → LeadsDown c.args.ranks.now roots p q = c.lead_down.ensures c.if-not-lead_down.false in
    let there : (x : ℕ) → x < length rows → Reaches (Edge rows) (slice_index roots x) x = λ x lt. c.in_ok-are_reached.ensures c.if-not-branch.false x (omega (arith, lt, length-rows c.args.rows.now)) in
    let back : (x : ℕ) → x < length rows → Reaches (Edge closing) (slice_index roots x) x = λ x lt. (
    let len : length c.as_slice.result.now ≡ length c.in_ok-closing.closing.items = ap length c.as_slice.ensures.value in
    subst (λ (l : List (Vec ℕ)). Reaches (Edge (rows_of l)) (slice_index roots x) x) c.as_slice.ensures.value
    (c.in_ok-are_reached-2.ensures c.if-not-branch-2.false x (omega (arith, lt, len, c.in_ok-closing.ensures.size, length-rows c.args.rows.now)))) in
    closing_are rows closing c.args.ranks.now roots c.requires c.in_ok-closing.ensures.edges down there back
