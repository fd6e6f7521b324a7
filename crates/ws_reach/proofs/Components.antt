-- Where ranks fall along edges that leave a component, and roots reach their nodes both ways, edges within a component close a cycle, and no others.
use Rattle.std.proofs.Common.{◌≡◌, ◌<◌, ◌≤◌, ℕ, List, [], ◌∷◌, length, slice_index, sym, ap, subst, inl, inr, arith}
use Rattle.std.proofs.lemmas.Option.{slice_get_within}
use Rattle.ws_reach.specs.Components.{AreAlike, LeadsDown}
use Rattle.ws_reach.specs.Reach.{Edge, EdgesStayWithin, Reaches, Walks}
use Rattle.ws_reach.proofs.Reached.{reaches_more, reaches_through}

-- edges turned round lead back
turned_walks : {A : Type 0} (E F : A → A → Type 0) → ((p q : A) → E p q → F q p) → (steps : List A) (p q : A) → Walks E p steps q → Reaches F q p
turned_walks E F turn [] p q w = ([], sym w)
turned_walks E F turn (r ∷ rs) p q (first, rest) = reaches_more F q r p (turned_walks E F turn rs r q rest) (turn p r first)

pub reaches_turned : {A : Type 0} (E F : A → A → Type 0) → ((p q : A) → E p q → F q p) → (p q : A) → Reaches E p q → Reaches F q p
reaches_turned E F turn p q (steps, w) = turned_walks E F turn steps p q w

-- where no edge leads up, no walk does
low_walks : {A : Type 0} (E : A → A → Type 0) (level : A → ℕ) → ((p q : A) → E p q → level q ≤ level p) → (steps : List A) (p q : A) → Walks E p steps q → level q ≤ level p
low_walks E level low [] p q w = let e : level p ≡ level q = ap level w in omega (arith, e)
low_walks E level low (r ∷ rs) p q (first, rest) = omega (arith, low p r first, low_walks E level low rs r q rest)

pub reaches_low : {A : Type 0} (E : A → A → Type 0) (level : A → ℕ) → ((p q : A) → E p q → level q ≤ level p) → (p q : A) → Reaches E p q → level q ≤ level p
reaches_low E level low p q (steps, w) = low_walks E level low steps p q w

module _ (rows closing : List (List ℕ)) (ranks roots : List ℕ) (stay : EdgesStayWithin rows)
    (within : (q p : ℕ) → (Edge closing q p → Edge rows p q × AreAlike roots p q) × (Edge rows p q × AreAlike roots p q → Edge closing q p))
    (down : (p q : ℕ) → Edge rows p q → LeadsDown ranks roots p q)
    (there : (x : ℕ) → x < length rows → Reaches (Edge rows) (slice_index roots x) x)
    (back : (x : ℕ) → x < length rows → Reaches (Edge closing) (slice_index roots x) x) where
  to_root : (x : ℕ) → x < length rows → Reaches (Edge rows) x (slice_index roots x)
  to_root x lt = reaches_turned (Edge closing) (Edge rows) (λ q p e. ((within q p).0 e).0) (slice_index roots x) x (back x lt)

  low : (p q : ℕ) → Edge rows p q → slice_index ranks q ≤ slice_index ranks p
  low p q e = elim (down p q e) [ inl lt ↦ omega (arith, lt) | inr same ↦ (let it = same.0 in omega (arith, it)) ]

  closes : (q p : ℕ) → Edge rows p q → AreAlike roots p q → Reaches (Edge rows) q p
  closes q p e alike =
      let first = to_root q (stay p q e) in
      let here = there p (slice_get_within rows p e.0 e.1) in
      reaches_through (Edge rows) q (slice_index roots q) p first (subst (λ r. Reaches (Edge rows) r p) alike here)

  alike_of : (q p : ℕ) → Edge rows p q → Reaches (Edge rows) q p → AreAlike roots p q
  alike_of q p e r = elim (down p q e) [
    | inl lt ↦ absurd (omega (arith, lt, reaches_low (Edge rows) (slice_index ranks) low q p r))
    | inr same ↦ same.1
  ]

  pub closing_are : (q p : ℕ) → (Edge closing q p → Edge rows p q × Reaches (Edge rows) q p) × (Edge rows p q × Reaches (Edge rows) q p → Edge closing q p)
  closing_are q p = (
    λ e. (let h = (within q p).0 e in (h.0, closes q p h.0 h.1)),
    λ h. (within q p).1 (h.0, alike_of q p h.0 h.1),
  )

-- edges of other edges turned round stay within as many rows
pub closing_stay : (rows closing : List (List ℕ)) (roots : List ℕ) → length closing ≡ length rows
    → ((q p : ℕ) → (Edge closing q p → Edge rows p q × AreAlike roots p q) × (Edge rows p q × AreAlike roots p q → Edge closing q p)) → EdgesStayWithin closing
closing_stay rows closing roots size within q p e =
    let h = ((within q p).0 e).0 in
    let lt = slice_get_within rows p h.0 h.1 in
    omega (arith, lt, size)
