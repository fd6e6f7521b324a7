-- What depends on itself isn't grounded, and where nothing does all is.
use Rattle.std.proofs.Common.{◌≡◌, ℕ, zero, suc, ◌<◌, ◌≤◌, Bool, true, false, eqb, if◌then◌else◌, List, [], ◌∷◌, Some, length, refl, sym, ap, ◌∙◌, subst, inl, inr, arith, eqb-true, eq-eqb}
use Rattle.std.specs.List.{slice_get, Contains}
use Rattle.std.proofs.lemmas.Bool.{cases_Bool, cases_eq}
use Rattle.std.proofs.lemmas.Option.{slice_get_within}
use Rattle.ws_reach.specs.Reach.{Edge, EdgesStayWithin, Walks, Reaches}
use Rattle.ws_reach.proofs.Reached.{reaches_itself, reaches_more, reaches_from, contains_get, get_contains}
use Rattle.ws_reach.proofs.Closure.{IsOneOf, reach, reach_sound, reach_complete}
use Rattle.go_scope.specs.Order.{DependsOnItself, GroundedIn, Grounded}

deeper : (rows : List (List ℕ)) (n i : ℕ) → GroundedIn rows n i → GroundedIn rows (suc n) i
deeper rows zero i g = absurd g
deeper rows (suc n) i g = λ j e. deeper rows n j (g j e)

walked : (rows : List (List ℕ)) (n : ℕ) (steps : List ℕ) (i j : ℕ) → Walks (Edge rows) i steps j → GroundedIn rows n i → GroundedIn rows n j
walked rows n [] i j w g = subst (GroundedIn rows n) w g
walked rows zero (s ∷ steps) i j w g = absurd g
walked rows (suc n) (s ∷ steps) i j w g = walked rows (suc n) steps s j w.1 (deeper rows n s (g s w.0))

not_grounded_in : (rows : List (List ℕ)) (n i : ℕ) → DependsOnItself rows i → GroundedIn rows n i → ⊥
not_grounded_in rows zero i d g = g
not_grounded_in rows (suc n) i d g = not_grounded_in rows n i d (walked rows (suc n) (d.1).0 i d.0 (d.1).1 g i d.2)

pub not_grounded : (rows : List (List ℕ)) (i : ℕ) → DependsOnItself rows i → Grounded rows i → ⊥
not_grounded rows i d g = not_grounded_in rows g.0 i d g.1

-- ---- edges and walks are decided by tests

has : List ℕ → ℕ → Bool
has [] q = false
has (x ∷ xs) q = if eqb x q then true else has xs q

edge : List (List ℕ) → ℕ → ℕ → Bool
edge [] p q = false
edge (r ∷ rs) zero q = has r q
edge (r ∷ rs) (suc p) q = edge rs p q

has_contains : (xs : List ℕ) (q : ℕ) → has xs q ≡ true → Contains xs q
unfolding has
has_contains [] q e = cc
has_contains (x ∷ xs) q e = elim (cases_Bool (eqb x q)) [
  | inl t ↦ get_contains (x ∷ xs) 0 q (ap Some (eqb-true x q t))
  | inr f ↦ (let c = has_contains xs q (rw f at e) in get_contains (x ∷ xs) (suc c.0) q (contains_get xs q c))
]

get_has : (xs : List ℕ) (q k : ℕ) → slice_get xs k ≡ Some q → has xs q ≡ true
unfolding has
get_has [] q k e = cc
get_has (x ∷ xs) q zero e = let same : x ≡ q = cc in rw (eq-eqb x q same) refl
get_has (x ∷ xs) q (suc k) e = elim (cases_Bool (eqb x q)) [ inl t ↦ rw t refl | inr f ↦ rw f (get_has xs q k e) ]

edge_is : (rows : List (List ℕ)) (p q : ℕ) → edge rows p q ≡ true → Edge rows p q
unfolding edge
edge_is [] p q e = cc
edge_is (r ∷ rs) zero q e = (r, refl, has_contains r q e)
edge_is (r ∷ rs) (suc p) q e = edge_is rs p q e

is_edge : (rows : List (List ℕ)) (p q : ℕ) → Edge rows p q → edge rows p q ≡ true
unfolding edge
is_edge [] p q (row, at, c) = cc (at)
is_edge (r ∷ rs) zero q (row, at, c) = let same : r ≡ row = cc in get_has r q c.0 (ap (λ (l : List ℕ). slice_get l c.0) same ∙ contains_get row q c)
is_edge (r ∷ rs) (suc p) q h = is_edge rs p q h

-- the declarations below a number
nodes : ℕ → List ℕ
nodes zero = []
nodes (suc n) = n ∷ nodes n

is_node : (n q : ℕ) → q < n → IsOneOf q (nodes n)
unfolding nodes
is_node zero q lt = absurd (omega (arith, lt))
is_node (suc n) q lt = elim (cases_eq q n) [ inl e ↦ inl e | inr ne ↦ inr (is_node n q (omega (arith, lt, ne))) ]

abbrev reaches : List (List ℕ) → ℕ → ℕ → Bool
reaches rows = reach eqb (edge rows) (nodes (length rows))

reaches_sound : (rows : List (List ℕ)) (p q : ℕ) → reaches rows p q ≡ true → Reaches (Edge rows) p q
reaches_sound rows p q h = reach_sound (Edge rows) eqb (edge rows) eqb-true (λ n. eq-eqb n n refl) (edge_is rows) (is_edge rows) (nodes (length rows)) p q h

reaches_complete : (rows : List (List ℕ)) → EdgesStayWithin rows → (p q : ℕ) → Reaches (Edge rows) p q → reaches rows p q ≡ true
reaches_complete rows within p q h =
    reach_complete (Edge rows) eqb (edge rows) eqb-true (λ n. eq-eqb n n refl) (edge_is rows) (is_edge rows) (nodes (length rows)) (λ a b e. is_node (length rows) b (within a b e)) p q h

-- ---- how many pass a test

count : (ℕ → Bool) → List ℕ → ℕ
count f [] = 0
count f (x ∷ xs) = if f x then suc (count f xs) else count f xs

fewer : (f g : ℕ → Bool) → ((x : ℕ) → f x ≡ true → g x ≡ true) → (xs : List ℕ) → count f xs ≤ count g xs
unfolding count
fewer f g h [] = omega arith
fewer f g h (x ∷ xs) = elim (cases_Bool (f x)) [
  | inl t ↦ rw (t, h x t) (let r = fewer f g h xs in omega (arith, r))
  | inr n ↦ elim (cases_Bool (g x)) [
    | inl t ↦ rw (n, t) (let r = fewer f g h xs in omega (arith, r))
    | inr m ↦ rw (n, m) (fewer f g h xs)
  ]
]

less : (f g : ℕ → Bool) → ((x : ℕ) → f x ≡ true → g x ≡ true) → (p : ℕ) → f p ≡ false → g p ≡ true → (xs : List ℕ) → IsOneOf p xs → count f xs < count g xs
unfolding count
less f g h p n t [] one = absurd one
less f g h p n t (x ∷ xs) (inl e) =
    let nx : f x ≡ false = ap f (sym e) ∙ n in
    let tx : g x ≡ true = ap g (sym e) ∙ t in
    rw (nx, tx) (let r = fewer f g h xs in omega (arith, r))
less f g h p n t (x ∷ xs) (inr one) = elim (cases_Bool (f x)) [
  | inl s ↦ rw (s, h x s) (let r = less f g h p n t xs one in omega (arith, r))
  | inr m ↦ elim (cases_Bool (g x)) [
    | inl s ↦ rw (m, s) (let r = less f g h p n t xs one in omega (arith, r))
    | inr k ↦ rw (m, k) (less f g h p n t xs one)
  ]
]

-- ---- what a declaration reaches is the larger for each edge

-- a walk back to where it began
closing : (rows : List (List ℕ)) (i : ℕ) (steps : List ℕ) (p q : ℕ) → Reaches (Edge rows) i p → Edge rows p q → Walks (Edge rows) q steps i → DependsOnItself rows i
closing rows i [] p q r e w = (p, r, subst (Edge rows p) w e)
closing rows i (s ∷ steps) p q r e w = closing rows i steps q s (reaches_more (Edge rows) i p q r e) w.0 w.1

module _ (rows : List (List ℕ)) (within : EdgesStayWithin rows) (none : (i : ℕ) → DependsOnItself rows i → ⊥) where
  size : ℕ → ℕ
  size i = count (reaches rows i) (nodes (length rows))

  smaller : (i j : ℕ) → Edge rows i j → size j < size i
  unfolding size
  smaller i j e = less (reaches rows j) (reaches rows i)
      (λ x h. reaches_complete rows within i x (reaches_from (Edge rows) i j x e (reaches_sound rows j x h)))
      i
      (elim (cases_Bool (reaches rows j i)) [
        | inl t ↦ (let back = reaches_sound rows j i t in absurd (none i (closing rows i back.0 i j (reaches_itself (Edge rows) i) e back.1)))
        | inr f ↦ f
      ])
      (reaches_complete rows within i i (reaches_itself (Edge rows) i))
      (nodes (length rows)) (is_node (length rows) i (slice_get_within rows i e.0 e.1))

  ranked : (n i : ℕ) → size i < n → GroundedIn rows n i
  ranked zero i lt = absurd (omega (arith, lt))
  ranked (suc n) i lt = λ j e. ranked n j (let l = smaller i j e in omega (arith, l, lt))

  pub all_grounded : (i : ℕ) → Grounded rows i
  all_grounded i = (suc (size i), ranked (suc (size i)) i (omega arith))
