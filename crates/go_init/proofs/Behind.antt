-- Of a row the nodes behind the first ones.
use Rattle.std.proofs.Common.{◌≡◌, ℕ, ◌+◌, ◌-◌, ◌<◌, ◌≤◌, ◌⊎◌, List, [], ◌∷◌, ◌++◌, length, Some, sym, ap, ◌∙◌, subst, inl, inr, arith}
use Rattle.std.specs.Prelude.{◌↔◌}
use Rattle.std.proofs.lemmas.Bool.{cases_eq}
use Rattle.std.proofs.lemmas.List.Elements.{Contains-append_left, Contains-push, Contains-push_cases}
use Rattle.std.specs.List.{Contains, slice_get}
use Rattle.ws_reach.proofs.Reached.{contains_get, get_contains}

pub record Behind (row behind : List ℕ) (count i : ℕ) : Type 0 where
  pub from : (y : ℕ) → Contains behind y → Contains row (count + y)
  pub taken : (j y : ℕ) → j < i → slice_get row j ≡ Some (count + y) → Contains behind y

-- the node was added, or left out as it is one of the first
abbrev pub NextBehind : List ℕ → List ℕ → ℕ → ℕ → Type 0
NextBehind now next count node = ((count ≤ node) × (next ≡ now ++ (node - count) ∷ [])) ⊎ ((node < count) × (next ≡ now))

pub behind_next : (row now next : List ℕ) (count i node : ℕ) → slice_get row i ≡ Some node → NextBehind now next count node → Behind row now count i → Behind row next count (i + 1)
behind_next row now next count i node at (inl (high, pushed)) h = record {
  from = λ y k. elim (Contains-push_cases now (node - count) y (subst (λ (l : List ℕ). Contains l y) pushed k)) [
    | inl old ↦ h.from y old
    | inr new ↦ (let it : node ≡ count + y = omega (arith, high, new) in subst (Contains row) it (get_contains row i node at))
  ];
  taken = λ j y lt is. subst (λ (l : List ℕ). Contains l y) (sym pushed) (elim (cases_eq j i) [
    | inl same ↦ (
        let both : Some node ≡ Some (count + y) = sym at ∙ sym (ap (slice_get row) same) ∙ is in
        let it : node ≡ count + y = cc in
        let less : node - count ≡ y = omega (arith, it) in
        subst (Contains (now ++ (node - count) ∷ [])) less (Contains-push now (node - count)))
    | inr ne ↦ Contains-append_left now ((node - count) ∷ []) y (h.taken j y (omega (arith, lt, ne)) is)
  ]);
}
behind_next row now next count i node at (inr (low, kept)) h = record {
  from = λ y k. h.from y (subst (λ (l : List ℕ). Contains l y) kept k);
  taken = λ j y lt is. subst (λ (l : List ℕ). Contains l y) (sym kept) (elim (cases_eq j i) [
    | inl same ↦ (
        let both : Some node ≡ Some (count + y) = sym at ∙ sym (ap (slice_get row) same) ∙ is in
        let it : node ≡ count + y = cc in
        absurd (omega (arith, low, it)))
    | inr ne ↦ h.taken j y (omega (arith, lt, ne)) is
  ]);
}

pub behind_end : (row behind : List ℕ) (count i : ℕ) → length row ≤ i → Behind row behind count i → (y : ℕ) → Contains behind y ↔ Contains row (count + y)
behind_end row behind count i past h y = (h.from y, λ k. h.taken k.0 y (let lt = k.1 in omega (arith, lt, past)) (contains_get row (count + y) k))
