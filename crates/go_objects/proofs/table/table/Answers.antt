use Rattle.std.proofs.Common.{◌≡◌, ℕ, ◌<◌, List, length, get_or, sym, ap, ◌∙◌, subst, arith}
use Rattle.std.specs.Global.{Vec}
use Rattle.std.specs.List.{Contains}
use Rattle.std.proofs.lemmas.Option.{slice_get-get_or}
use Rattle.ws_reach.specs.Reach.{EdgesStayWithin, rows_of}
use Rattle.ws_reach.proofs.Rows.{length-rows}
use Rattle.go_scope.specs.Order.{Grounded, Ordered, Once}
use Rattle.go_expr.specs.Views.{names_of}
use Rattle.go_objects.specs.Table.{rows}
use Rattle.go_objects.specs.Packages.{package_of}
use Rattle.go_objects.proofs.Filling.{Filled, filled_none, filled_step, filled_table}
use Rattle.go_objects.proofs.table.table.Goals as goal

pub order_of-requires : goal.order_of-requires
order_of-requires c = subst (λ (l : List (Vec ℕ)). EdgesStayWithin (rows_of l)) (sym c.deref.ensures.value) c.in_ok-rows.ensures.within

pub loop-number-init : goal.loop-number-init
loop-number-init c = filled_none (package_of c.args.package.now) c.deref-number-items.result.now (names_of c.in_ok-known.known) c.in_ok-known.ensures

pub loop-number-preserved : goal.loop-number-preserved
loop-number-preserved c =
    let p = package_of c.args.package.now in
    let items = c.deref-number-items.result.now in
    let k = c.loop-number.number-index in
    let graph : rows_of c.deref.result.now ≡ rows p = ap rows_of c.deref.ensures.value ∙ c.in_ok-rows.ensures.rows in
    let ordered = subst (λ (l : List ℕ). Ordered (rows p) l) (sym c.deref-number-items.ensures.value) (subst (λ (r : List (List ℕ)). Ordered r c.in_ok-order.order.items) graph c.in_ok-order.ensures.ordered) in
    let once = subst (λ (l : List ℕ). Once l) (sym c.deref-number-items.ensures.value) c.in_ok-order.ensures.once in
    filled_step p items k (get_or items k 0) (names_of c.loop-number.known) (names_of c.fill.new.known) ordered once c.loop-number.invariant (slice_get-get_or items k 0 c.loop-number-test.true) c.in_ok-fill.ensures.there c.in_ok-fill.ensures.past

pub returns : goal.returns
returns c =
    let p = package_of c.args.package.now in
    let items = c.deref-number-items.result.now in
    let graph : rows_of c.deref.result.now ≡ rows p = ap rows_of c.deref.ensures.value ∙ c.in_ok-rows.ensures.rows in
    let over : c.loop-number.number-index ≡ length items = omega (arith, c.loop-number-test.false, c.loop-number.auto.number-index-end) in
    let only : (i : ℕ) → Contains items i → Grounded (rows p) i = λ i has.
    subst (λ (r : List (List ℕ)). Grounded r i) graph (c.in_ok-order.ensures.only i (subst (λ (l : List ℕ). Contains l i) c.deref-number-items.ensures.value has)) in
    let all : (i : ℕ) → i < length (rows p) → Grounded (rows p) i → Contains items i = λ i lt g.
    let inside : i < length c.deref.result.now = omega (arith, lt, ap length graph, length-rows c.deref.result.now) in
    subst (λ (l : List ℕ). Contains l i) (sym c.deref-number-items.ensures.value)
    (c.in_ok-order.ensures.all i inside (subst (λ (r : List (List ℕ)). Grounded r i) (sym graph) g)) in
    filled_table p items (names_of c.loop-number.known) only all (subst (λ (n : ℕ). Filled p items n (names_of c.loop-number.known)) over c.loop-number.invariant)
