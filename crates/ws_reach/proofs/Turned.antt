-- Edges that are turned round.
use Rattle.std.proofs.Common.{◌≡◌, ◌<◌, ◌⊎◌, ℕ, zero, suc, ◌+◌, List, [], ◌∷◌, ◌++◌, length, Some, refl, sym, ap, ◌∙◌, subst, inl, inr, arith}
use Rattle.std.proofs.Math.ListN.{set}
use Rattle.std.proofs.lemmas.Bool.{cases_eq}
use Rattle.std.proofs.lemmas.List.Elements.{Contains-append_left, Contains-push, Contains-push_cases}
use Rattle.std.proofs.lemmas.Option.{slice_get_within}
use Rattle.std.specs.Global.{Vec}
use Rattle.std.specs.List.{Contains, slice_get}
use Rattle.ws_reach.specs.Components.{AreAlike}
use Rattle.ws_reach.specs.Reach.{Edge, rows_of}
use Rattle.ws_reach.proofs.Marks.{contains_none}
use Rattle.ws_reach.proofs.Reached.{get_contains}
use Rattle.ws_reach.proofs.Rows.{edge_of, get_push, rows-push}

-- ---- one more edge

at_set : {A : Type 0} (xs : List A) (i : ℕ) (x : A) → i < length xs → slice_get (set xs i x) i ≡ Some x
at_set [] i x lt = absurd (omega (arith, lt))
at_set (y ∷ ys) zero x lt = refl
at_set (y ∷ ys) (suc i) x lt = at_set ys i x (omega (arith, lt))

at_other : {A : Type 0} (xs : List A) (i j : ℕ) (x : A) → (j ≡ i → ⊥) → slice_get (set xs i x) j ≡ slice_get xs j
at_other [] i j x ne = refl
at_other (y ∷ ys) zero zero x ne = absurd (ne refl)
at_other (y ∷ ys) zero (suc j) x ne = refl
at_other (y ∷ ys) (suc i) zero x ne = refl
at_other (y ∷ ys) (suc i) (suc j) x ne = at_other ys i j x (λ e. ne (ap suc e))

pub rows-set : (rows : List (Vec ℕ)) (i : ℕ) (row : Vec ℕ) → rows_of (set rows i row) ≡ set (rows_of rows) i row.items
rows-set [] i row = refl
rows-set (r ∷ rs) zero row = refl
rows-set (r ∷ rs) (suc i) row = ap (λ l. r.items ∷ l) (rows-set rs i row)

pub rows-get : (rows : List (Vec ℕ)) (i : ℕ) (row : Vec ℕ) → slice_get rows i ≡ Some row → slice_get (rows_of rows) i ≡ Some row.items
rows-get [] i row e = cc
rows-get (r ∷ rs) zero row e = (let it : r ≡ row = cc in ap (λ (v : Vec ℕ). Some v.items) it)
rows-get (r ∷ rs) (suc i) row e = rows-get rs i row e

module _ (old new : List (List ℕ)) (i to : ℕ) (its more : List ℕ) (at : slice_get old i ≡ Some its) (is : new ≡ set old i more) (pushed : more ≡ its ++ to ∷ []) where
  at_it : slice_get new i ≡ Some more
  at_it = ap (λ l. slice_get l i) is ∙ at_set old i more (slice_get_within old i its at)

  pub added_from : (p q : ℕ) → Edge new p q → Edge old p q ⊎ ((p ≡ i) × (q ≡ to))
  added_from p q (row, there, has) = elim (cases_eq p i) [
    | inl same ↦ (
        let both : Some row ≡ Some more = sym (ap (slice_get new) (sym same) ∙ there) ∙ at_it in
        let it : row ≡ more = cc in
        elim (Contains-push_cases its to q (subst (λ l. Contains l q) (it ∙ pushed) has)) [
          | inl one ↦ inl (its, ap (slice_get old) same ∙ at, one)
          | inr last ↦ inr (same, sym last)
        ])
    | inr ne ↦ inl (row, sym (at_other old i p more ne) ∙ sym (ap (λ l. slice_get l p) is) ∙ there, has)
  ]

  pub added_to : (p q : ℕ) → Edge old p q ⊎ ((p ≡ i) × (q ≡ to)) → Edge new p q
  added_to p q (inl (row, there, has)) = elim (cases_eq p i) [
    | inl same ↦ (
        let both : Some row ≡ Some its = sym (ap (slice_get old) (sym same) ∙ there) ∙ at in
        let it : row ≡ its = cc in
        (more, ap (slice_get new) same ∙ at_it, subst (λ l. Contains l q) (sym pushed) (Contains-append_left its (to ∷ []) q (subst (λ l. Contains l q) it has))))
    | inr ne ↦ (row, ap (λ l. slice_get l p) is ∙ at_other old i p more ne ∙ there, has)
  ]
  added_to p q (inr (same, it)) = (more, ap (slice_get new) same ∙ at_it, subst (λ l. Contains l q) (sym pushed) (subst (λ x. Contains (its ++ to ∷ []) x) (sym it) (Contains-push its to)))

-- one more row without edges has none
pub none_next : (rows rows' : List (Vec ℕ)) (row : Vec ℕ) → rows' ≡ rows ++ row ∷ [] → row.items ≡ [] → ((p q : ℕ) → ¬ (Edge (rows_of rows) p q)) → (p q : ℕ) → ¬ (Edge (rows_of rows') p q)
none_next rows rows' row is empty none p q (its, at, has) =
    elim (get_push (rows_of rows) row.items p its (sym (ap (λ (l : List (List ℕ)). slice_get l p) (ap rows_of is ∙ rows-push rows row)) ∙ at)) [
      | inl old ↦ none p q (its, old, has)
      | inr new ↦ contains_none its (sym new.1 ∙ empty) q has
    ]

-- ---- the edges of a row

pub record Turning (old new : List (List ℕ)) (row roots : List ℕ) (p i : ℕ) : Type 0 where
  pub stay : (q x : ℕ) → Edge old q x → Edge new q x
  pub taken : (k q : ℕ) → k < i → slice_get row k ≡ Some q → AreAlike roots p q → Edge new q p
  pub from : (q x : ℕ) → Edge new q x → Edge old q x ⊎ ((x ≡ p) × Contains row q × AreAlike roots p q)

-- the edge was added, or left out as its ends are not alike
abbrev pub Next : List (List ℕ) → List (List ℕ) → List ℕ → ℕ → ℕ → Type 0
Next now next roots p q =
    (AreAlike roots p q × ((y x : ℕ) → (Edge next y x → Edge now y x ⊎ ((y ≡ q) × (x ≡ p))) × (Edge now y x ⊎ ((y ≡ q) × (x ≡ p)) → Edge next y x)))
    ⊎ ((next ≡ now) × ¬ (AreAlike roots p q))

pub turning_next : (old now next : List (List ℕ)) (row roots : List ℕ) (p i q : ℕ) → slice_get row i ≡ Some q → Next now next roots p q → Turning old now row roots p i → Turning old next row roots p (i + 1)
turning_next old now next row roots p i q at (inl (alike, added)) h = record {
  stay = λ y x e. (added y x).1 (inl (h.stay y x e));
  taken = λ k y lt is a. elim (cases_eq k i) [
    | inl same ↦ (
        let both : Some y ≡ Some q = sym is ∙ ap (slice_get row) same ∙ at in
        let it : y ≡ q = cc in
        (added y p).1 (inr (it, refl)))
    | inr ne ↦ (added y p).1 (inl (h.taken k y (omega (arith, lt, ne)) is a))
  ];
  from = λ y x e. elim ((added y x).0 e) [
    | inl before ↦ h.from y x before
    | inr here ↦ inr (here.1, subst (Contains row) (sym here.0) (get_contains row i q at), subst (AreAlike roots p) (sym here.0) alike)
  ];
}
turning_next old now next row roots p i q at (inr (same_rows, apart)) h = record {
  stay = λ y x e. subst (λ (l : List (List ℕ)). Edge l y x) (sym same_rows) (h.stay y x e);
  taken = λ k y lt is a. elim (cases_eq k i) [
    | inl same ↦ (
        let both : Some y ≡ Some q = sym is ∙ ap (slice_get row) same ∙ at in
        let it : y ≡ q = cc in
        absurd (apart (subst (AreAlike roots p) it a)))
    | inr ne ↦ subst (λ (l : List (List ℕ)). Edge l y p) (sym same_rows) (h.taken k y (omega (arith, lt, ne)) is a)
  ];
  from = λ y x e. h.from y x (subst (λ (l : List (List ℕ)). Edge l y x) same_rows e);
}

-- ---- the edges of all rows

pub record Turned (rows now : List (List ℕ)) (roots : List ℕ) (p : ℕ) : Type 0 where
  pub from : (q x : ℕ) → Edge now q x → Edge rows x q × AreAlike roots x q
  pub taken : (q x : ℕ) → x < p → Edge rows x q → AreAlike roots x q → Edge now q x

pub turned_next : (rows now next : List (List ℕ)) (roots : List ℕ) (p : ℕ) (row : List ℕ) → slice_get rows p ≡ Some row
    → ((q x : ℕ) → Edge now q x → Edge next q x)
    → ((q : ℕ) → Contains row q → AreAlike roots p q → Edge next q p)
    → ((q x : ℕ) → Edge next q x → Edge now q x ⊎ ((x ≡ p) × Contains row q × AreAlike roots p q))
    → Turned rows now roots p → Turned rows next roots (p + 1)
turned_next rows now next roots p row at stay taken from h = record {
  from = λ q x e. elim (from q x e) [
    | inl before ↦ h.from q x before
    | inr here ↦ subst (λ y. Edge rows y q × AreAlike roots y q) (sym here.0) ((row, at, here.1), here.2)
  ];
  taken = λ q x lt e a. elim (cases_eq x p) [
    | inl same ↦ subst (Edge next q) (sym same) (taken q (edge_of rows p row at q (subst (λ y. Edge rows y q) same e)) (subst (λ y. AreAlike roots y q) same a))
    | inr ne ↦ stay q x (h.taken q x (omega (arith, lt, ne)) e a)
  ];
}
