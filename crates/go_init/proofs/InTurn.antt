-- The variables of a condensation in turn are the variables in turn by all that edges lead to.
use Rattle.std.proofs.Common.{◌≡◌, ◌⊎◌, ℕ, ◌+◌, ◌<◌, ◌≤◌, Bool, List, [], ◌∷◌, length, slice_index, refl, sym, ap, ◌∙◌, subst, inl, inr, arith}
use Rattle.std.specs.Prelude.{◌↔◌}
use Rattle.std.specs.List.{range_with_len, slice_get}
use Rattle.std.proofs.lemmas.List.{get_or_default, get_or_past}
use Rattle.std.proofs.lemmas.Option.{slice_get_within}
use Rattle.ws_reach.proofs.Components.{reaches_turned}
use Rattle.ws_reach.proofs.Reached.{reaches_from, reaches_more, reaches_stay, reaches_through}
use Rattle.ws_reach.specs.Components.{AreAlike}
use Rattle.ws_reach.specs.Reach.{Edge, EdgesStayWithin, Reaches, Walks}
use Rattle.go_init.specs.Condensation.{AreDue, IsRenumbered, WaitsForReferred, WaitsForRoot, root_of, variables_among}
use Rattle.go_init.specs.Packages.{imports, package_order}
use Rattle.go_init.specs.Turns.{in_turn}
use Rattle.go_init.proofs.Condensed.{AreCondensed, AreRoots, FromRoot, LeadsAmong, condensed_order, mapped}
use Rattle.go_init.proofs.Orders.{edge_is, edge_of}

-- ---- edges that close a cycle, turned round

module _ (E C : ℕ → ℕ → Type 0) (closing : (q p : ℕ) → (C q p → E p q × Reaches E q p) × (E p q × Reaches E q p → C q p)) where
  turned_steps : (steps : List ℕ) (u v : ℕ) → Walks E u steps v → Reaches E v u → Reaches C v u
  turned_steps [] u v w back = ([], sym w)
  turned_steps (s ∷ ss) u v (first, rest) back =
      let home : Reaches E s u = reaches_through E s v u (ss, rest) back in
      reaches_more C v s u (turned_steps ss s v rest (reaches_more E v u s back first)) ((closing s u).1 (first, home))

  -- what reach one another do so along them
  pub both_ways : (u v : ℕ) → Reaches E u v → Reaches E v u → Reaches C v u
  both_ways u v there back = turned_steps there.0 u v there.1 back

  pub closing_back : (q p : ℕ) → C q p → Reaches C p q
  closing_back q p e = (let c = (closing q p).0 e in both_ways q p c.1 (reaches_from E p q q c.0 ([], refl)))

  pub closing_there : (q p : ℕ) → Reaches C q p → Reaches E q p
  closing_there q p r = mapped C E (λ n. n) (λ x y e. ((closing x y).0 e).1) q p r

  pub closing_turned : (q p : ℕ) → Reaches C q p → Reaches E p q
  closing_turned q p r = reaches_turned C E (λ x y e. ((closing x y).0 e).0) q p r

-- ---- the roots

module _ (rows behind closing : List (List ℕ)) (count : ℕ)
    (edges : (x y : ℕ) → Edge behind x y ↔ Edge rows (count + x) (count + y))
    (closes : (q p : ℕ) → Edge closing q p ↔ (Edge behind p q × Reaches (Edge behind) q p)) where
  pub closing_within : (p q : ℕ) → Edge closing p q → q < length behind
  closing_within p q e = (let h = ((closes p q).0 e).0 in slice_get_within behind q h.0 h.1)

  among : (x y : ℕ) → Reaches (Edge behind) x y → Reaches (LeadsAmong rows count) x y
  among x y r = mapped (Edge behind) (LeadsAmong rows count) (λ n. n) (λ u v e. (v ∷ [], ((edges u v).0 e, refl))) x y r

  from_among : (x y : ℕ) → Reaches (LeadsAmong rows count) x y → Reaches (Edge behind) x y
  from_among x y r = mapped (LeadsAmong rows count) (Edge behind) (λ n. n) (λ u v e. (v ∷ [], ((edges u v).1 e, refl))) x y r

  pub are_roots : (roots : List ℕ) → ((x : ℕ) → x < length behind → slice_index roots x < length behind)
      → ((x : ℕ) → x < length behind → Reaches (Edge closing) (slice_index roots x) x)
      → ((x y : ℕ) → x < length behind → Edge closing x y → AreAlike roots x y)
      → AreRoots rows count (length behind) roots
  are_roots roots inside reached alike = record {
    inside = inside;
    there = λ x lt. among x (slice_index roots x) (closing_turned (Edge behind) (Edge closing) closes (slice_index roots x) x (reached x lt));
    back = λ x lt. among (slice_index roots x) x (closing_there (Edge behind) (Edge closing) closes (slice_index roots x) x (reached x lt));
    same = λ x y in_x in_y there back. (
        let way = both_ways (Edge behind) (Edge closing) closes y x (from_among y x back) (from_among x y there) in
        (reaches_stay (Edge closing) (λ z. (z < length behind) × AreAlike roots x z) (λ z w p e. (closing_within z w e, p.1 ∙ alike z w p.0 e)) x y way (in_x, refl)).1);
  }

-- ---- what waits

module _ (rows waits : List (List ℕ)) (count : ℕ) (roots : List ℕ) (size : count + length roots ≡ length rows) (same_size : length waits ≡ length rows)
    (inside : (x : ℕ) → x < length roots → slice_index roots x < length roots)
    (edges : (p q : ℕ) → Edge waits p q ↔ (WaitsForRoot roots p q ⊎ WaitsForReferred rows count roots p q)) where
  of_function : (number : ℕ) → number < length roots → root_of roots number ≡ slice_index roots number
  of_function number lt = get_or_default roots number number 0 lt

  of_variable : (number : ℕ) → length roots ≤ number → root_of roots number ≡ number
  of_variable number past = get_or_past roots number number past

  from_function : (f y : ℕ) → f < length roots → WaitsForReferred rows count roots f y → FromRoot rows count (length roots) roots f y
  from_function f y lt (node, number, row, at, inl v, is, o) = (
      let number_is = v.1 in
      let own = of_variable number (omega (arith, number_is)) in
      absurd (omega (arith, lt, is, own, number_is)))
  from_function f y lt (node, number, row, at, inr g, is, o) =
      (number, o.0, g.0, sym (of_function number g.0) ∙ sym is, (row, ap (slice_get rows) (sym g.1) ∙ at, o.1), o.2, o.3)

  to_function : (f y : ℕ) → FromRoot rows count (length roots) roots f y → WaitsForReferred rows count roots f y
  to_function f y (g, t, lt, is, edge, r, leaves) =
      (count + g, g, edge.0, edge.1, inr (lt, refl), sym (of_function g lt ∙ is), (t, edge.2, r, leaves))

  from_variable : (v y : ℕ) → v < count → WaitsForReferred rows count roots (length roots + v) y → (t : ℕ) × Edge rows v t × IsRenumbered count (length roots) t y
  from_variable v y lt (node, number, row, at, inl n, is, o) =
      let number_is = n.1 in
      let own = of_variable number (omega (arith, number_is)) in
      let it : node ≡ v = omega (arith, is, own, number_is) in
      (o.0, (row, ap (slice_get rows) (sym it) ∙ at, o.1), o.2)
  from_variable v y lt (node, number, row, at, inr g, is, o) = (
      let own = of_function number g.0 in
      let low = inside number g.0 in
      absurd (omega (arith, is, own, low)))

  to_variable : (v y t : ℕ) → v < count → Edge rows v t → IsRenumbered count (length roots) t y → WaitsForReferred rows count roots (length roots + v) y
  to_variable v y t lt edge r =
      (v, length roots + v, edge.0, edge.1, inl (lt, refl), sym (of_variable (length roots + v) (omega arith)), (t, edge.2, r, λ low own. (let in' = inside y low in omega (arith, in', own))))

  pub are_condensed : AreCondensed rows count (length roots) roots (imports waits)
  are_condensed = record {
    from = λ p q h. (let e = edge_of waits p q h in let lt = slice_get_within waits p e.0 e.1 in omega (arith, lt, size, same_size));
    function = λ f y lt. (
      λ h. elim ((edges f y).0 (edge_of waits f y h)) [
        | inl root ↦ inl (root.1, root.2)
        | inr w ↦ inr (from_function f y lt w)
      ],
      λ h. edge_is waits f y ((edges f y).1 (elim h [
        | inl root ↦ inl (lt, root.0, root.1)
        | inr w ↦ inr (to_function f y w)
      ])),
    );
    variable = λ v y lt. (
      λ h. elim ((edges (length roots + v) y).0 (edge_of waits (length roots + v) y h)) [
        | inl root ↦ (let low = root.0 in absurd (omega (arith, low)))
        | inr w ↦ from_variable v y lt w
      ],
      λ h. edge_is waits (length roots + v) y ((edges (length roots + v) y).1 (inr (to_variable v y h.0 lt h.1 h.2))),
    );
  }

-- ---- the order

pub behind_stay : (rows behind : List (List ℕ)) (count : ℕ) → EdgesStayWithin rows → count + length behind ≡ length rows → ((x y : ℕ) → Edge behind x y ↔ Edge rows (count + x) (count + y)) → EdgesStayWithin behind
behind_stay rows behind count stay size edges p q e = (let lt = stay (count + p) (count + q) ((edges p q).0 e) in omega (arith, lt, size))

pub first_in_turn : (rows behind closing waits : List (List ℕ)) (count : ℕ) (roots order : List ℕ) → EdgesStayWithin rows → count + length behind ≡ length rows
    → ((x y : ℕ) → Edge behind x y ↔ Edge rows (count + x) (count + y))
    → ((q p : ℕ) → Edge closing q p ↔ (Edge behind p q × Reaches (Edge behind) q p))
    → length roots ≡ length behind
    → ((x : ℕ) → x < length behind → slice_index roots x < length behind)
    → ((x : ℕ) → x < length behind → Reaches (Edge closing) (slice_index roots x) x)
    → ((x y : ℕ) → x < length behind → Edge closing x y → AreAlike roots x y)
    → length waits ≡ length rows
    → ((p q : ℕ) → Edge waits p q ↔ (WaitsForRoot roots p q ⊎ WaitsForReferred rows count roots p q))
    → order ≡ package_order waits
    → (depends : ℕ → ℕ → Bool) → AreDue rows count depends → variables_among (length behind) order ≡ (in_turn depends (range_with_len 0 count)).0
first_in_turn rows behind closing waits count roots order stay size behind_are closes root_size inside reached alike wait_size wait_are is depends due =
    let roots_are : AreRoots rows count (length behind) roots = are_roots rows behind closing count behind_are closes roots inside reached alike in
    let within : (x : ℕ) → x < length roots → slice_index roots x < length roots = λ x lt. (let r = inside x (omega (arith, lt, root_size)) in omega (arith, r, root_size)) in
    let condensed = are_condensed rows waits count roots (omega (arith, size, root_size)) wait_size within wait_are in
    let all : length waits ≡ length behind + count = omega (arith, wait_size, size) in
    ap (variables_among (length behind)) (is ∙ ap (λ n. (in_turn (imports waits) (range_with_len 0 n)).0) all)
    ∙ condensed_order rows count (length behind) roots (imports waits) depends (sym size) stay roots_are (subst (λ n. AreCondensed rows count n roots (imports waits)) root_size condensed) due
