-- Marks and the list of what is marked.
use Rattle.std.proofs.Common.{◌≡◌, ℕ, zero, suc, ◌<◌, ◌≤◌, Bool, true, false, not, cond, List, [], ◌∷◌, ◌++◌, length, get_or, count_by, refl, sym, ap, ◌∙◌, subst, inl, inr, arith, get_or-set_other, get_or-set_same}
use Rattle.std.proofs.Math.ListN.{set, length-set}
use Rattle.std.specs.List.{slice_get, Contains}
use Rattle.std.proofs.lemmas.Bool.{cases_eq, cases_lt}
use Rattle.std.proofs.lemmas.List.{length-append, append_assoc, append-nil}
use Rattle.std.proofs.lemmas.List.Sums.{sum_by-set, sum_by-cons}
use Rattle.std.proofs.lemmas.List.Elements.{Contains-append_left, Contains-push, Contains-push_cases}
use Rattle.ws_reach.specs.Worklist.{AreMarks, Grows, is_marked, AllBelow}

get_past : (xs : List Bool) (q : ℕ) → length xs ≤ q → get_or xs q false ≡ false
get_past [] q le = refl
get_past (x ∷ xs) zero le = absurd (omega (arith, le))
get_past (x ∷ xs) (suc q) le = get_past xs q (omega (arith, le))

mark_inside : (marks : List Bool) (q : ℕ) → is_marked marks q ≡ true → q < length marks
mark_inside marks q e = elim (cases_lt q (length marks)) [
  | inl lt ↦ lt
  | inr le ↦ (let c : true ≡ false = sym e ∙ get_past marks q le in absurd (cc))
]

pub marks_below : (marks : List Bool) (found : List ℕ) → AreMarks marks found → AllBelow (length marks) found
marks_below marks found h q c = mark_inside marks q (h.here q c)

pub marks_more : (marks : List Bool) (found : List ℕ) (q : ℕ) → AreMarks marks found → q < length marks → is_marked marks q ≡ false → AreMarks (set marks q true) (found ++ q ∷ [])
marks_more marks found q h inside fresh = record {
  here = λ x c. elim (cases_eq x q) [
    | inl e ↦ ap (λ i. get_or (set marks q true) i false) e ∙ get_or-set_same marks q true false inside
    | inr ne ↦ get_or-set_other marks q x true false ne ∙ elim (Contains-push_cases found q x c) [ inl old ↦ h.here x old | inr e ↦ absurd (ne (sym e)) ]
  ];
  back = λ x e. elim (cases_eq x q) [
    | inl s ↦ subst (λ i. Contains (found ++ q ∷ []) i) (sym s) (Contains-push found q)
    | inr ne ↦ Contains-append_left found (q ∷ []) x (h.back x (sym (get_or-set_other marks q x true false ne) ∙ e))
  ];
  count = (
      let s = sum_by-set (λ b. cond (not b) 1 0) marks q true false inside in
      let was : ◌≡◌ {A = ℕ} (cond (not (get_or marks q false)) 1 0) 1 = ap (λ b. cond (not b) 1 0) fresh in
      omega (arith, s, was, h.count, length-append found (q ∷ []), length-set marks q true));
}

none_counted : (marks : List Bool) → ((q : ℕ) → is_marked marks q ≡ false) → count_by not marks ≡ length marks
none_counted [] h = refl
none_counted (m ∷ ms) h =
    let one : ◌≡◌ {A = ℕ} (cond (not m) 1 0) 1 = ap (λ b. cond (not b) 1 0) (h 0) in
    omega (arith, sum_by-cons (λ b. cond (not b) 1 0) m ms, one, none_counted ms (λ q. h (suc q)))

pub contains_none : (found : List ℕ) → found ≡ [] → (q : ℕ) → Contains found q → ⊥
contains_none found e q c = let lt = c.1 in let l : length found ≡ 0 = ap length e in absurd (omega (arith, lt, l))

pub contains_one : (x y : ℕ) → Contains (y ∷ []) x → x ≡ y
contains_one x y (k, lt, is) =
    let zero_k : k ≡ 0 = omega (arith, lt) in
    let at : get_or (y ∷ []) 0 x ≡ x = sym (ap (λ i. get_or (y ∷ []) i x) zero_k) ∙ is in
    sym at

pub marks_none : (marks : List Bool) (found : List ℕ) → found ≡ [] → ((q : ℕ) → is_marked marks q ≡ false) → AreMarks marks found
marks_none marks found e h = record {
  here = λ q c. absurd (contains_none found e q c);
  back = λ q m. (let c : true ≡ false = sym m ∙ h q in absurd (cc));
  count = (let l : length found ≡ 0 = ap length e in omega (arith, l, none_counted marks h));
}

-- ---- growing

pub grows_none : (xs : List ℕ) → Grows xs xs
grows_none xs = ([], sym (append-nil xs))

pub grows_through : (xs ys zs : List ℕ) → Grows xs ys → Grows ys zs → Grows xs zs
grows_through xs ys zs (r, e) (s, f) = (r ++ s, f ∙ ap (λ l. l ++ s) e ∙ append_assoc xs r s)

pub grows_contains : (xs ys : List ℕ) → Grows xs ys → (x : ℕ) → Contains xs x → Contains ys x
grows_contains xs ys (r, e) x c = subst (λ l. Contains l x) (sym e) (Contains-append_left xs r x c)

get_left : (xs rest : List ℕ) (i : ℕ) → i < length xs → slice_get (xs ++ rest) i ≡ slice_get xs i
get_left [] rest i lt = absurd (omega (arith, lt))
get_left (x ∷ xs) rest zero lt = refl
get_left (x ∷ xs) rest (suc i) lt = get_left xs rest i (omega (arith, lt))

pub grows_get : (xs ys : List ℕ) → Grows xs ys → (i : ℕ) → i < length xs → slice_get ys i ≡ slice_get xs i
grows_get xs ys (r, e) i lt = ap (λ l. slice_get l i) e ∙ get_left xs r i lt

pub grows_length : (xs ys : List ℕ) → Grows xs ys → length xs ≤ length ys
grows_length xs ys (r, e) = let l : length ys ≡ length (xs ++ r) = ap length e in omega (arith, l, length-append xs r)
