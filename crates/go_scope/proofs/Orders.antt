-- Placing one declaration more, and what an order of all that can be placed says.
use Rattle.std.proofs.Common.{◌≡◌, ◌⊎◌, ℕ, zero, suc, ◌<◌, Bool, true, false, List, [], ◌∷◌, ◌++◌, Some, length, get_or, refl, sym, ap, ◌∙◌, subst, inl, inr, arith}
use Rattle.std.proofs.Math.ListN.{set, length-set}
use Rattle.std.specs.List.{slice_get, Contains}
use Rattle.std.proofs.lemmas.Option.{slice_get_within}
use Rattle.std.specs.Global.{Vec}
use Rattle.ws_reach.specs.Reach.{Edge, EdgesStayWithin, rows_of}
use Rattle.ws_reach.specs.Worklist.{AreMarks, is_marked}
use Rattle.ws_reach.proofs.Marks.{marks_more, grows_get}
use Rattle.ws_reach.proofs.Reached.{contains_get, get_contains}
use Rattle.go_scope.specs.declared.order.Placed.{Placed}
use Rattle.go_scope.specs.Order.{Ordered, Once, GroundedIn, Grounded}
use Rattle.go_scope.specs.Placing.{Placing, Settled}

-- the row that the code has
pub row_here : (rows : List (Vec ℕ)) (i : ℕ) (row : Vec ℕ) → i < length rows → row ≡ get_or rows i row → slice_get (rows_of rows) i ≡ Some row.items
row_here [] i row lt e = absurd (omega (arith, lt))
row_here (r ∷ rs) zero row lt e = ap (λ (v : Vec ℕ). Some v.items) (sym e)
row_here (r ∷ rs) (suc i) row lt e = row_here rs i row (omega (arith, lt)) e

-- the last of a list, or one before it
get_push : {A : Type 0} (xs : List A) (x : A) (j : ℕ) (y : A) → slice_get (xs ++ x ∷ []) j ≡ Some y → (slice_get xs j ≡ Some y) ⊎ ((j ≡ length xs) × (x ≡ y))
get_push [] x zero y e = inr (refl, (let s : Some x ≡ Some y = e in cc))
get_push [] x (suc j) y e = cc
get_push (z ∷ zs) x zero y e = inl e
get_push (z ∷ zs) x (suc j) y e = elim (get_push zs x j y e) [ inl h ↦ inl h | inr h ↦ inr (ap suc h.0, h.1) ]

get_before : (xs : List ℕ) (x j y : ℕ) → slice_get xs j ≡ Some y → slice_get (xs ++ x ∷ []) j ≡ Some y
get_before xs x j y e = grows_get xs (xs ++ x ∷ []) (x ∷ [], refl) j (slice_get_within xs j y e) ∙ e

ordered_more : (rows : List (List ℕ)) (order : List ℕ) (i : ℕ) → Ordered rows order → ((j : ℕ) → Edge rows i j → Contains order j) → Ordered rows (order ++ i ∷ [])
ordered_more rows order i o behind k x j at e = elim (get_push order i k x at) [
  | inl old ↦ (let m = o k x j old e in (m.0, m.1, get_before order i m.0 j m.2))
  | inr new ↦ (
      let c = behind j (subst (λ y. Edge rows y j) (sym new.1) e) in
      (c.0, subst (λ n. c.0 < n) (sym new.0) c.1, get_before order i c.0 j (contains_get order j c)))
]

once_more : (order : List ℕ) (x : ℕ) → Once order → (Contains order x → ⊥) → Once (order ++ x ∷ [])
once_more order x once new k m i a b = elim (get_push order x k i a) [
  | inl p ↦ elim (get_push order x m i b) [
    | inl q ↦ once k m i p q
    | inr q ↦ absurd (new (subst (λ y. Contains order y) (sym q.1) (get_contains order k i p)))
  ]
  | inr p ↦ elim (get_push order x m i b) [
    | inl q ↦ absurd (new (subst (λ y. Contains order y) (sym p.1) (get_contains order m i q)))
    | inr q ↦ p.0 ∙ sym q.0
  ]
]

not_placed : (marks : List Bool) (order : List ℕ) (i : ℕ) → AreMarks marks order → is_marked marks i ≡ false → Contains order i → ⊥
not_placed marks order i h fresh c = (let no : true ≡ false = sym (h.here i c) ∙ fresh in cc (no))

pub placing_more : (rows : List (List ℕ)) (old new : Placed) (i : ℕ) → Placing rows old → i < length rows → is_marked old.marks.items i ≡ false → ((j : ℕ) → Edge rows i j → is_marked old.marks.items j ≡ true)
    → new.marks.items ≡ set old.marks.items i true → new.order.items ≡ old.order.items ++ i ∷ [] → Placing rows new
placing_more rows old new i p inside fresh needs marks order =
    let within : i < length old.marks.items = omega (arith, p.size, inside) in
    record {
      size = ap length marks ∙ length-set old.marks.items i true ∙ p.size;
      marks = subst (λ (l : List Bool). AreMarks l new.order.items) (sym marks) (subst (λ (l : List ℕ). AreMarks (set old.marks.items i true) l) (sym order) (marks_more old.marks.items old.order.items i p.marks within fresh));
      ordered = subst (λ (l : List ℕ). Ordered rows l) (sym order) (ordered_more rows old.order.items i p.ordered (λ j e. p.marks.back j (needs j e)));
      once = subst (λ (l : List ℕ). Once l) (sym order) (once_more old.order.items i p.once (not_placed old.marks.items old.order.items i p.marks fresh));
    }

-- what is placed is grounded, by its place
grounded_below : (rows : List (List ℕ)) (order : List ℕ) → Ordered rows order → (n k i : ℕ) → k < n → slice_get order k ≡ Some i → GroundedIn rows n i
grounded_below rows order o zero k i lt at = absurd (omega (arith, lt))
grounded_below rows order o (suc n) k i lt at = λ j e. (let m = o k i j at e in grounded_below rows order o n m.0 j (let l = m.1 in omega (arith, l, lt)) m.2)

pub order_grounded : (rows : List (List ℕ)) (order : List ℕ) → Ordered rows order → (i : ℕ) → Contains order i → Grounded rows i
order_grounded rows order o i c = (suc c.0, grounded_below rows order o (suc c.0) c.0 i (omega arith) (contains_get order i c))

-- what is grounded is placed where all is settled
grounded_marked : (rows : List (List ℕ)) (placed : Placed) → EdgesStayWithin rows → ((i : ℕ) → i < length rows → Settled rows placed i) → (n i : ℕ) → i < length rows → GroundedIn rows n i → is_marked placed.marks.items i ≡ true
grounded_marked rows placed within settled zero i lt g = absurd g
grounded_marked rows placed within settled (suc n) i lt g = elim (settled i lt) [
  | inl m ↦ m
  | inr (j, e, f) ↦ (
      let m : is_marked placed.marks.items j ≡ true = grounded_marked rows placed within settled n j (within i j e) (g j e) in
      let no : true ≡ false = sym m ∙ f in cc (no))
]

pub grounded_placed : (rows : List (List ℕ)) (placed : Placed) → EdgesStayWithin rows → ((i : ℕ) → i < length rows → Settled rows placed i) → Placing rows placed → (i : ℕ) → i < length rows → Grounded rows i → Contains placed.order.items i
grounded_placed rows placed within settled p i lt g = p.marks.back i (grounded_marked rows placed within settled g.0 i lt g.1)
