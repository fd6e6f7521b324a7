use Rattle.std.proofs.Common.{◌≡◌, ◌<◌, ℕ, true, false, List, Bool, length, sym, ap, ◌∙◌, subst, inl, inr, refl, arith}
use Rattle.std.specs.List.{Contains}
use Rattle.ws_reach.specs.Reach.{rows_of}
use Rattle.ws_reach.specs.Worklist.{is_marked}
use Rattle.ws_reach.proofs.Rows.{edge_of, length-rows}
use Rattle.go_scope.proofs.Orders.{row_here, placing_more}
use Rattle.go_scope.proofs.order.place.Goals as goal
use Rattle.go_scope.proofs.order.place.Goals.{then-has_mark-via-then-has_mark, then-has_mark-via-else-has_mark+then-not-have_marks}

pub returns-then-has_mark-clause-settled : goal.returns-then-has_mark-clause-settled
returns-then-has_mark-clause-settled c n lt =
    let rows = rows_of c.args.rows.now in
    let row = row_here c.args.rows.now c.args.declaration c.in-Some.needs.now lt (c.in-Some.ensures.lookup).1 in
    elim c.then-has_mark.branch [
      | then-has_mark-via-then-has_mark w ↦ inl (ap (λ (m : List Bool). is_marked m c.args.declaration) (sym c.deref.ensures.value) ∙ sym c.has_mark.ensures ∙ w.if-has_mark.true)
      | then-has_mark-via-else-has_mark+then-not-have_marks w ↦ (
          let s = w.if-not-have_marks.ensures.some n in
          inr (
            s.0,
            (c.in-Some.needs.now.items, row, subst (λ (l : List ℕ). Contains l s.0) w.deref-else-has_mark-2.ensures.value s.1),
            subst (λ (m : List Bool). is_marked m s.0 ≡ false) w.deref-else-has_mark.ensures.value s.2,
          ))
    ]

pub returns-clause-placing : goal.returns-clause-placing
returns-clause-placing c =
    let rows = rows_of c.args.rows.now in
    let i = c.args.declaration in
    let marks = c.args.placed.now.marks.items in
    let look = c.in-Some.ensures.lookup in
    let lt : i < length c.args.rows.now = omega (arith, (look.3).0) in
    let row = row_here c.args.rows.now i c.in-Some.needs.now lt look.1 in
    let fresh : is_marked marks i ≡ false = ap (λ (m : List Bool). is_marked m i) (sym c.deref.ensures.value) ∙ sym c.has_mark.ensures ∙ c.if-has_mark.false in
    placing_more rows c.args.placed.now _ i c.requires (omega (arith, lt, length-rows c.args.rows.now)) fresh
    (λ j e. subst (λ (m : List Bool). is_marked m j ≡ true) c.deref-else-has_mark.ensures.value
    (c.if-not-have_marks.ensures.all refl j (subst (λ (l : List ℕ). Contains l j) (sym c.deref-else-has_mark-2.ensures.value) (edge_of rows i c.in-Some.needs.now.items row j e))))
    refl c.in_ok-push.ensures.items
