-- Rows of edges.
use Rattle.std.proofs.Common.{◌≡◌, ◌⊎◌, ℕ, zero, suc, ◌+◌, ◌<◌, List, [], ◌∷◌, ◌++◌, Some, None, length, sym, ap, ◌∙◌, subst, inl, inr, refl, arith}
use Rattle.std.specs.List.{slice_get, Contains}
use Rattle.std.specs.Global.{Vec}
use Rattle.std.proofs.lemmas.List.{length-append}
use Rattle.ws_reach.specs.Reach.{Edge, rows_of}

pub length-rows : (rows : List (Vec ℕ)) → length (rows_of rows) ≡ length rows
length-rows [] = refl
length-rows (r ∷ rs) = ap suc (length-rows rs)

-- an edge of a node whose row is known
pub edge_of : (rows : List (List ℕ)) (p : ℕ) (row : List ℕ) → slice_get rows p ≡ Some row → (q : ℕ) → Edge rows p q → Contains row q
edge_of rows p row at q (its, is, k) =
    let both : Some its ≡ Some row = sym is ∙ at in
    let same : its ≡ row = cc in
    subst (λ (l : List ℕ). Contains l q) same k

pub edge_here : (rows : List (List ℕ)) (p : ℕ) (row : List ℕ) → slice_get rows p ≡ Some row → (found : List ℕ) (q : ℕ) → Contains found q ⊎ Contains row q → Contains found q ⊎ Edge rows p q
edge_here rows p row at found q (inl old) = inl old
edge_here rows p row at found q (inr new) = inr (row, at, new)

pub rows-push : (rows : List (Vec ℕ)) (row : Vec ℕ) → rows_of (rows ++ row ∷ []) ≡ rows_of rows ++ row.items ∷ []
rows-push [] row = refl
rows-push (r ∷ rs) row = ap (λ l. r.items ∷ l) (rows-push rs row)

pub no_rows : (rows : List (Vec ℕ)) → rows ≡ [] → (p q : ℕ) → Edge (rows_of rows) p q → ⊥
no_rows rows e p q (row, at, k) =
    let none : None ≡ Some row = sym (ap (λ (l : List (Vec ℕ)). slice_get (rows_of l) p) e) ∙ at in
    cc (none)

-- the last of a list, or one before it
pub get_push : {A : Type 0} (xs : List A) (x : A) (j : ℕ) (y : A) → slice_get (xs ++ x ∷ []) j ≡ Some y → (slice_get xs j ≡ Some y) ⊎ ((j ≡ length xs) × (x ≡ y))
get_push [] x zero y e = inr (refl, (let s : Some x ≡ Some y = e in cc))
get_push [] x (suc j) y e = cc
get_push (z ∷ zs) x zero y e = inl e
get_push (z ∷ zs) x (suc j) y e = elim (get_push zs x j y e) [ inl h ↦ inl h | inr h ↦ inr (ap suc h.0, h.1) ]

get_inside : {A : Type 0} (xs : List A) (j : ℕ) → j < length xs → (x : A) × (slice_get xs j ≡ Some x)
get_inside [] j lt = absurd (omega (arith, lt))
get_inside (x ∷ xs) zero lt = (x, refl)
get_inside (x ∷ xs) (suc j) lt = get_inside xs j (omega (arith, lt))

-- as many rows as n, and the row at j has the p with P j p
pub record RowsAre (P : ℕ → ℕ → Type 0) (rows : List (List ℕ)) (n : ℕ) : Type 0 where
  pub size : length rows ≡ n
  pub are : (j : ℕ) (row : List ℕ) → slice_get rows j ≡ Some row → (p : ℕ) → (Contains row p → P j p) × (P j p → Contains row p)

pub rows_none : (P : ℕ → ℕ → Type 0) (rows : List (List ℕ)) → rows ≡ [] → RowsAre P rows 0
rows_none P rows e = record {
  size = ap length e;
  are = λ j row at. (let none : None ≡ Some row = sym (ap (λ (l : List (List ℕ)). slice_get l j) e) ∙ at in cc (none));
}

pub rows_next : (P : ℕ → ℕ → Type 0) (rows rows' : List (List ℕ)) (row : List ℕ) (n : ℕ) → rows' ≡ rows ++ row ∷ [] → RowsAre P rows n → ((p : ℕ) → (Contains row p → P n p) × (P n p → Contains row p)) → RowsAre P rows' (n + 1)
rows_next P rows rows' row n pushed h here = record {
  size = (let l : length rows' ≡ length (rows ++ row ∷ []) = ap length pushed in omega (arith, l, length-append rows (row ∷ []), h.size));
  are = λ j its at p. elim (get_push rows row j its (sym (ap (λ (l : List (List ℕ)). slice_get l j) pushed) ∙ at)) [
    | inl old ↦ h.are j its old p
    | inr new ↦ subst (λ i. (Contains its p → P i p) × (P i p → Contains its p)) (sym (new.0 ∙ h.size)) (subst (λ (l : List ℕ). (Contains l p → P n p) × (P n p → Contains l p)) new.1 (here p))
  ];
}

pub rows_edges : (P : ℕ → ℕ → Type 0) (rows : List (List ℕ)) (n : ℕ) → RowsAre P rows n → ((j p : ℕ) → P j p → j < n) → (j p : ℕ) → (Edge rows j p → P j p) × (P j p → Edge rows j p)
rows_edges P rows n h inside j p = (
  λ (row, at, k). (h.are j row at p).0 k,
  λ holds. (
      let there = get_inside rows j (let lt = inside j p holds in omega (arith, lt, h.size)) in
      (there.0, there.1, (h.are j there.0 there.1 p).1 holds)),
)
