-- A condensed graph leads from variable to variable as the graph does, and has no circle of functions.
use Rattle.std.proofs.Common.{◌≡◌, ℕ, ◌+◌, ◌-◌, ◌<◌, ◌⊎◌, Bool, List, [], ◌∷◌, length, slice_index, refl, sym, ap, ◌∙◌, subst, inl, inr, arith}
use Rattle.std.specs.Prelude.{◌↔◌}
use Rattle.std.specs.List.{range_with_len}
use Rattle.std.proofs.lemmas.Bool.{cases_lt, cases_eq}
use Rattle.ws_reach.specs.Reach.{Edge, EdgesStayWithin, Reaches, Walks}
use Rattle.ws_reach.proofs.Reached.{reaches_from, reaches_more, reaches_through}
use Rattle.go_init.specs.Condensation.{AreDue, IsRenumbered, variables_among}
use Rattle.go_init.specs.Turns.{in_turn}
use Rattle.go_init.proofs.FunctionsFirst.{Among, AreMixed, Holds, without_functions}

-- one function refers to another, where functions stand behind variables, as many as the count
abbrev pub LeadsAmong : List (List ℕ) → ℕ → ℕ → ℕ → Type 0
LeadsAmong rows count x y = Edge rows (count + x) (count + y)

-- functions have the same root just where they reach one another
pub record AreRoots (rows : List (List ℕ)) (count functions : ℕ) (roots : List ℕ) : Type 0 where
  pub inside : (x : ℕ) → x < functions → slice_index roots x < functions
  pub there : (x : ℕ) → x < functions → Reaches (LeadsAmong rows count) x (slice_index roots x)
  pub back : (x : ℕ) → x < functions → Reaches (LeadsAmong rows count) (slice_index roots x) x
  pub same : (x y : ℕ) → x < functions → y < functions → Reaches (LeadsAmong rows count) x y → Reaches (LeadsAmong rows count) y x → slice_index roots x ≡ slice_index roots y

-- one whose root is f refers to what has the number y, and that has another root
abbrev pub FromRoot : List (List ℕ) → ℕ → ℕ → List ℕ → ℕ → ℕ → Type 0
FromRoot rows count functions roots f y =
    (g t : ℕ) × (g < functions) × (slice_index roots g ≡ f) × Edge rows (count + g) t × IsRenumbered count functions t y × (y < functions → ¬ (slice_index roots y ≡ f))

pub record AreCondensed (rows : List (List ℕ)) (count functions : ℕ) (roots : List ℕ) (waits : ℕ → ℕ → Bool) : Type 0 where
  pub from : (p q : ℕ) → Holds waits p q → p < functions + count
  pub function : (f y : ℕ) → f < functions → Holds waits f y ↔ (((¬ (slice_index roots f ≡ f)) × (y ≡ slice_index roots f)) ⊎ FromRoot rows count functions roots f y)
  pub variable : (v y : ℕ) → v < count → Holds waits (functions + v) y ↔ ((t : ℕ) × Edge rows v t × IsRenumbered count functions t y)

mapped_walks : {A B : Type 0} (E : A → A → Type 0) (F : B → B → Type 0) (f : A → B) → ((x y : A) → E x y → Reaches F (f x) (f y)) → (steps : List A) (p q : A) → Walks E p steps q → Reaches F (f p) (f q)
mapped_walks E F f each [] p q w = ([], ap f w)
mapped_walks E F f each (r ∷ rs) p q (first, rest) = reaches_through F (f p) (f r) (f q) (each p r first) (mapped_walks E F f each rs r q rest)

pub mapped : {A B : Type 0} (E : A → A → Type 0) (F : B → B → Type 0) (f : A → B) → ((x y : A) → E x y → Reaches F (f x) (f y)) → (p q : A) → Reaches E p q → Reaches F (f p) (f q)
mapped E F f each p q (steps, w) = mapped_walks E F f each steps p q w

one_edge : {A : Type 0} (E : A → A → Type 0) (p q : A) → E p q → Reaches E p q
one_edge E p q e = (q ∷ [], (e, refl))

module _ (rows : List (List ℕ)) (count functions : ℕ) (roots : List ℕ) (waits depends : ℕ → ℕ → Bool) (size : length rows ≡ count + functions) (stay : EdgesStayWithin rows)
    (are : AreRoots rows count functions roots) (condensed : AreCondensed rows count functions roots waits) (due : AreDue rows count depends) where
  abbrev root : ℕ → ℕ
  root x = slice_index roots x

  abbrev A : ℕ → ℕ → Type 0
  A = LeadsAmong rows count

  abbrev W : ℕ → ℕ → Type 0
  W = Holds waits

  root_again : (x : ℕ) → x < functions → root (root x) ≡ root x
  root_again x lt = sym (are.same x (root x) lt (are.inside x lt) (are.there x lt) (are.back x lt))

  -- reached among functions, so in the rows
  in_rows : (x y : ℕ) → Reaches A x y → Reaches (Edge rows) (count + x) (count + y)
  in_rows x y r = mapped A (Edge rows) (λ n. count + n) (λ u v e. one_edge (Edge rows) (count + u) (count + v) e) x y r

  -- from a function to its root
  to_root : (x : ℕ) → x < functions → Reaches W x (root x)
  to_root x lt = elim (cases_eq (root x) x) [
    | inl same ↦ ([], sym same)
    | inr ne ↦ one_edge W x (root x) ((condensed.function x (root x) lt).1 (inl (ne, refl)))
  ]

  -- ---- from the rows

  -- what follows a walk of the rows to a variable, by where it begins
  Follows : ℕ → ℕ → Type 0
  Follows t w = (t < count → Reaches W (functions + t) (functions + w)) × ((h : ℕ) → h < functions → t ≡ count + h → Reaches W (root h) (functions + w))

  -- from what has a number of its own
  from_number : (t y w : ℕ) → IsRenumbered count functions t y → Follows t w → Reaches W y (functions + w)
  unfolding Follows
  from_number t y w (inl (lt, is)) f = subst (λ z. Reaches W z (functions + w)) (sym is) (f.0 lt)
  from_number t y w (inr (lt, is)) f = reaches_through W y (root y) (functions + w) (to_root y lt) (f.1 y lt is)

  numbered : (t : ℕ) → t < count + functions → (y : ℕ) × IsRenumbered count functions t y
  numbered t lt = elim (cases_lt t count) [
    | inl low ↦ (functions + t, inl (low, refl))
    | inr high ↦ (t - count, inr (omega (arith, lt, high), omega (arith, high)))
  ]

  from_variable : (v t w : ℕ) → v < count → Edge rows v t → Follows t w → Reaches W (functions + v) (functions + w)
  from_variable v t w lt e f =
      let n = numbered t (let inside = stay v t e in omega (arith, inside, size)) in
      reaches_from W (functions + v) n.0 (functions + w) ((condensed.variable v n.0 lt).1 (t, e, n.1)) (from_number t n.0 w n.1 f)

  from_function : (h t w : ℕ) → h < functions → Edge rows (count + h) t → Follows t w → Reaches W (root h) (functions + w)
  unfolding Follows
  from_function h t w lt e f =
      let n = numbered t (let inside = stay (count + h) t e in omega (arith, inside, size)) in
      let go : (n.0 < functions → ¬ (root n.0 ≡ root h)) → Reaches W (root h) (functions + w) = λ other.
      reaches_from W (root h) n.0 (functions + w) ((condensed.function (root h) n.0 (are.inside h lt)).1 (inr (h, t, lt, refl, e, n.1, other))) (from_number t n.0 w n.1 f) in
      elim (cases_lt n.0 functions) [
        | inr high ↦ go (λ low. absurd (omega (arith, low, high)))
        | inl low ↦ elim (cases_eq (root n.0) (root h)) [
          | inr ne ↦ go (λ l. ne)
          | inl same ↦ (
              let is : t ≡ count + n.0 = elim n.1 [ inl v ↦ (let it = v.1 in absurd (omega (arith, it, low))) | inr g ↦ g.1 ] in
              subst (λ r. Reaches W r (functions + w)) same (f.1 n.0 low is))
        ]
      ]

  follows : (steps : List ℕ) (t w : ℕ) → w < count → Walks (Edge rows) t steps w → Follows t w
  unfolding Follows
  follows [] t w lt same = (λ low. ([], ap (λ n. functions + n) same), λ h low is. absurd (omega (arith, lt, is, same)))
  follows (s ∷ ss) t w lt (first, rest) =
      let f = follows ss s w lt rest in
      (λ low. from_variable t s w low first f, λ h low is. from_function h s w low (subst (λ z. Edge rows z s) is first) f)

  -- ---- and back

  edge_among : (f y : ℕ) → f < functions → y < functions → W f y → Reaches A f y
  edge_among f y low lt e = elim ((condensed.function f y low).0 e) [
    | inl r ↦ subst (Reaches A f) (sym r.1) (are.there f low)
    | inr (g, t, in_g, is, edge, number, other) ↦ (
        let at : t ≡ count + y = elim number [ inl v ↦ (let it = v.1 in absurd (omega (arith, it, lt))) | inr h ↦ h.1 ] in
        subst (λ z. Reaches A z y) is (reaches_more A (root g) g y (are.back g in_g) (subst (Edge rows (count + g)) at edge)))
  ]

  edge_back : (t p r : ℕ) → IsRenumbered count functions t p → W p r → (s : ℕ) × IsRenumbered count functions s r × Reaches (Edge rows) t s
  edge_back t p r (inl (lt, is)) e =
      let h = (condensed.variable t r lt).0 (subst (λ z. W z r) is e) in
      (h.0, h.2, one_edge (Edge rows) t h.0 h.1)
  edge_back t p r (inr (lt, is)) e = elim ((condensed.function p r lt).0 e) [
    | inl own ↦ (
      count + r,
      inr (subst (λ z. z < functions) (sym own.1) (are.inside p lt), refl),
      subst (λ z. Reaches (Edge rows) z (count + r)) (sym is) (in_rows p r (subst (Reaches A p) (sym own.1) (are.there p lt))),
    )
    | inr (g, s, in_g, own, edge, number, other) ↦ (
      s,
      number,
      subst (λ z. Reaches (Edge rows) z s) (sym is) (reaches_more (Edge rows) (count + p) (count + g) s (in_rows p g (subst (λ z. Reaches A z g) own (are.back g in_g))) edge),
    )
  ]

  one_number : (t u y : ℕ) → IsRenumbered count functions t y → IsRenumbered count functions u y → t ≡ u
  one_number t u y (inl (a, b)) (inl (c, d)) = omega (arith, b, d)
  one_number t u y (inl (a, b)) (inr (c, d)) = absurd (omega (arith, b, c))
  one_number t u y (inr (a, b)) (inl (c, d)) = absurd (omega (arith, a, d))
  one_number t u y (inr (a, b)) (inr (c, d)) = omega (arith, b, d)

  walk_back : (steps : List ℕ) (t p u q : ℕ) → IsRenumbered count functions t p → IsRenumbered count functions u q → Walks W p steps q → Reaches (Edge rows) t u
  walk_back [] t p u q at end w = ([], one_number t u q (subst (IsRenumbered count functions t) w at) end)
  walk_back (r ∷ rs) t p u q at end (first, rest) =
      let s = edge_back t p r at first in
      reaches_through (Edge rows) t s.0 u s.2 (walk_back rs s.0 r u q s.1 end rest)

  -- ---- no circle of functions

  among_reached : (p q : ℕ) → Reaches (Among waits functions) p q → Reaches A p q
  among_reached p q r = mapped (Among waits functions) A (λ n. n) (λ x y e. edge_among x y e.1 e.2 e.0) p q r

  -- an edge of a root leads to another root
  root_leaves : (p q : ℕ) → root p ≡ p → Among waits functions p q → ¬ (root q ≡ p)
  root_leaves p q own (e, in_p, in_q) back = elim ((condensed.function p q in_p).0 e) [
    | inl r ↦ r.0 own
    | inr (g, t, in_g, is, edge, number, other) ↦ other in_q back
  ]

  from_root : (p q : ℕ) → p < functions → q < functions → W p q → q ≡ root p → ¬ (root p ≡ p) → (steps : List ℕ) → Walks (Among waits functions) q steps p → ⊥
  from_root p q in_p in_q e is ne [] w = ne (sym is ∙ w)
  from_root p q in_p in_q e is ne (s ∷ ss) (first, rest) =
      let own : root q ≡ q = ap root is ∙ root_again p in_p ∙ sym is in
      let there : Reaches A q s = edge_among q s first.1 first.2 first.0 in
      let home : Reaches A s q = reaches_through A s p q (among_reached s p (ss, rest)) (edge_among p q in_p in_q e) in
      root_leaves q s own first (are.same s q first.2 in_q home there ∙ own)

  no_circle : (p q : ℕ) → Among waits functions p q → Reaches (Among waits functions) q p → ⊥
  no_circle p q (e, in_p, in_q) (steps, w) =
      let way = among_reached q p (steps, w) in
      let same : root p ≡ root q = are.same p q in_p in_q (edge_among p q in_p in_q e) way in
      elim (cases_eq (root p) p) [
        | inl own ↦ root_leaves p q own (e, in_p, in_q) (sym same ∙ own)
        | inr ne ↦ elim ((condensed.function p q in_p).0 e) [
          | inr (g, t, in_g, is, edge, number, other) ↦ ne (ap root (sym is) ∙ root_again g in_g ∙ is)
          | inl r ↦ from_root p q in_p in_q e r.1 ne steps w
        ]
      ]

  pub mixed : AreMixed waits depends functions count
  unfolding Follows
  mixed = record {
    from = condensed.from;
    circles = no_circle;
    due = λ v w in_v in_w. (
      λ h. (
          let d = (due v w in_v in_w).0 h in
          let n = numbered d.0 (let inside = stay v d.0 d.1 in omega (arith, inside, size)) in
          (n.0, (condensed.variable v n.0 in_v).1 (d.0, d.1, n.1), from_number d.0 n.0 w n.1 (follows (d.2).0 d.0 w in_w (d.2).1))),
      λ h. (
          let d = (condensed.variable v h.0 in_v).0 h.1 in
          (due v w in_v in_w).1 (d.0, d.1, walk_back (h.2).0 d.0 h.0 w (functions + w) d.2 (inl (in_w, refl)) (h.2).1)),
    );
  }

pub condensed_order : (rows : List (List ℕ)) (count functions : ℕ) (roots : List ℕ) (waits depends : ℕ → ℕ → Bool) → length rows ≡ count + functions → EdgesStayWithin rows → AreRoots rows count functions roots
    → AreCondensed rows count functions roots waits → AreDue rows count depends
    → variables_among functions (in_turn waits (range_with_len 0 (functions + count))).0 ≡ (in_turn depends (range_with_len 0 count)).0
condensed_order rows count functions roots waits depends size stay are condensed due = without_functions waits depends functions count (mixed rows count functions roots waits depends size stay are condensed due)
