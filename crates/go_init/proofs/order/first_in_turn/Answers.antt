use Rattle.std.proofs.Common.{◌≡◌, ◌⊎◌, ◌<◌, ◌+◌, ℕ, Bool, List, length, slice_index, sym, ap, ◌∙◌, subst, arith}
use Rattle.std.specs.Prelude.{◌↔◌}
use Rattle.std.specs.Global.{Vec}
use Rattle.std.specs.List.{range_with_len}
use Rattle.ws_reach.specs.Components.{AreAlike}
use Rattle.ws_reach.specs.Reach.{Edge, EdgesStayWithin, Reaches, rows_of}
use Rattle.ws_reach.proofs.Rows.{length-rows}
use Rattle.go_init.specs.Condensation.{AreDue, WaitsForReferred, WaitsForRoot, variables_among}
use Rattle.go_init.specs.Packages.{package_order}
use Rattle.go_init.specs.Turns.{in_turn}
use Rattle.go_init.proofs.InTurn.{behind_stay, closing_back, closing_within, first_in_turn}
use Rattle.go_init.proofs.Results.{if_ok}
use Rattle.go_init.proofs.order.first_in_turn.Goals as goal

pub closing_edges-requires : goal.closing_edges-requires
closing_edges-requires c =
    let behind = c.in_ok-functions.functions.items in
    let size = ap (λ n. c.args.count + n) (length-rows behind) ∙ c.in_ok-functions.ensures.size ∙ sym (length-rows c.args.rows.now) in
    subst (λ (l : List (Vec ℕ)). EdgesStayWithin (rows_of l)) (sym c.as_slice.ensures.value) (behind_stay (rows_of c.args.rows.now) (rows_of behind) c.args.count c.requires.within size c.in_ok-functions.ensures.edges)

pub roots_of-requires-clause-within : goal.roots_of-requires-clause-within
roots_of-requires-clause-within c =
    let behind = c.in_ok-functions.functions.items in
    let closing = c.in_ok-closing.closing.items in
    let closes = subst (λ (l : List (Vec ℕ)). (q p : ℕ) → Edge (rows_of closing) q p ↔ (Edge (rows_of l) p q × Reaches (Edge (rows_of l)) q p)) c.as_slice.ensures.value c.in_ok-closing.ensures in
    λ p q e. (
    let lt = closing_within (rows_of c.args.rows.now) (rows_of behind) (rows_of closing) c.args.count c.in_ok-functions.ensures.edges closes p q (subst (λ (l : List (Vec ℕ)). Edge (rows_of l) p q) c.as_slice-2.ensures.value e) in
    omega (arith, lt, length-rows behind, c.len.ensures))

pub roots_of-requires-clause-back : goal.roots_of-requires-clause-back
roots_of-requires-clause-back c =
    let behind = c.in_ok-functions.functions.items in
    let closing = c.in_ok-closing.closing.items in
    let closes = subst (λ (l : List (Vec ℕ)). (q p : ℕ) → Edge (rows_of closing) q p ↔ (Edge (rows_of l) p q × Reaches (Edge (rows_of l)) q p)) c.as_slice.ensures.value c.in_ok-closing.ensures in
    subst (λ (l : List (Vec ℕ)). (p q : ℕ) → Edge (rows_of l) p q → Reaches (Edge (rows_of l)) q p) (sym c.as_slice-2.ensures.value) (closing_back (Edge (rows_of behind)) (Edge (rows_of closing)) closes)

pub condensed-requires-clause-size : goal.condensed-requires-clause-size
condensed-requires-clause-size c = (let e = ap length c.as_slice-3.ensures.value in omega (arith, e, c.in_ok-roots.ensures.size, c.len.ensures, c.in_ok-functions.ensures.size))

pub condensed-requires-clause-inside : goal.condensed-requires-clause-inside
condensed-requires-clause-inside c =
    subst (λ (l : List ℕ). (x : ℕ) → x < length l → slice_index l x < length l) (sym c.as_slice-3.ensures.value)
    (λ x lt. (let r = c.in_ok-roots.ensures.inside x (omega (arith, lt, c.in_ok-roots.ensures.size)) in omega (arith, r, c.in_ok-roots.ensures.size)))

pub returns : goal.returns
returns c =
    let rows = rows_of c.args.rows.now in
    let count = c.args.count in
    let behind = c.in_ok-functions.functions.items in
    let closing = c.in_ok-closing.closing.items in
    let roots = c.in_ok-roots.roots.items in
    let waits = c.in_ok-waits.waits.items in
    let order = c.in_ok-order.order.items in
    let closes = subst (λ (l : List (Vec ℕ)). (q p : ℕ) → Edge (rows_of closing) q p ↔ (Edge (rows_of l) p q × Reaches (Edge (rows_of l)) q p)) c.as_slice.ensures.value c.in_ok-closing.ensures in
    let size = ap (λ n. count + n) (length-rows behind) ∙ c.in_ok-functions.ensures.size ∙ sym (length-rows c.args.rows.now) in
    let functions : c.len.result ≡ length (rows_of behind) = omega (arith, c.len.ensures, c.in_ok-functions.functions.ok.0, length-rows behind) in
    let again : c.len-2.result ≡ length (rows_of behind) = omega (arith, c.len-2.ensures, c.in_ok-functions.functions.ok.0, length-rows behind) in
    let inside = subst (λ n. (x : ℕ) → x < n → slice_index roots x < n) functions c.in_ok-roots.ensures.inside in
    let reached = subst (λ (l : List (Vec ℕ)). (x : ℕ) → x < length (rows_of behind) → Reaches (Edge (rows_of l)) (slice_index roots x) x) c.as_slice-2.ensures.value
    (subst (λ n. (x : ℕ) → x < n → Reaches (Edge (rows_of c.as_slice-2.result.now)) (slice_index roots x) x) functions c.in_ok-roots.ensures.reached) in
    let alike = subst (λ (l : List (Vec ℕ)). (x y : ℕ) → x < length (rows_of behind) → Edge (rows_of l) x y → AreAlike roots x y) c.as_slice-2.ensures.value
    (subst (λ n. (x y : ℕ) → x < n → Edge (rows_of c.as_slice-2.result.now) x y → AreAlike roots x y) functions c.in_ok-roots.ensures.alike) in
    let waited = subst (λ (l : List ℕ). (p q : ℕ) → Edge (rows_of waits) p q ↔ (WaitsForRoot l p q ⊎ WaitsForReferred rows count l p q)) c.as_slice-3.ensures.value c.in_ok-waits.ensures.edges in
    let wait_size = length-rows waits ∙ c.in_ok-waits.ensures.size ∙ sym (length-rows c.args.rows.now) in
    let is = c.in_ok-order.ensures ∙ ap (λ (l : List (Vec ℕ)). package_order (rows_of l)) c.as_slice-4.ensures.value in
    if_ok (λ (v : Vec ℕ). v.items ≡ variables_among c.len-2.result c.as_slice-5.result.now)
    (λ (v : Vec ℕ). (depends : ℕ → ℕ → Bool) → AreDue rows count depends → v.items ≡ (in_turn depends (range_with_len 0 count)).0)
    c.variables_among.result
    (λ v are depends due. are ∙ ap (variables_among c.len-2.result) c.as_slice-5.ensures.value ∙ ap (λ n. variables_among n order) again
    ∙ first_in_turn rows (rows_of behind) (rows_of closing) (rows_of waits) count roots order c.requires.within size c.in_ok-functions.ensures.edges closes (c.in_ok-roots.ensures.size ∙ functions) inside reached alike wait_size waited is depends due)
    c.variables_among.ensures
