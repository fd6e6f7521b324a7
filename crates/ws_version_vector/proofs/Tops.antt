-- Those of some replicas that have together what all have.
use Rattle.std.specs.Prelude.{◌≡◌, ◌<◌, ◌≤◌, ◌+◌, ◌⊎◌, ℕ, List, [], ◌∷◌, ◌++◌, take, length, slice_index_or}
use Rattle.std.specs.List.{Contains}
use Rattle.std.proofs.lemmas.Bool.{cases_eq}
use Rattle.std.proofs.lemmas.List.{take_all, take_more}
use Rattle.std.proofs.lemmas.List.Elements.{Contains-append_left, Contains-append_right, Contains-append_cases, Contains-push, Contains-push_cases}
use Rattle.std.proofs.Common.{sym, subst, ◌∙◌, inl, inr, arith}
use Rattle.ws_version_vector.specs.Counts.{counts_at, IsBelow, AreBelow, AreMaximal}

pub below_itself : (c : List ℕ) → IsBelow c c
below_itself c j = omega arith

pub below_further : (c d e : List ℕ) → IsBelow c d → IsBelow d e → IsBelow c e
below_further c d e h k j = let p = h j in let q = k j in omega (arith, p, q)

head_or_later : {A : Type 0} (x : A) (xs : List A) (y : A) → Contains (x ∷ xs) y → (x ≡ y) ⊎ Contains xs y
head_or_later x xs y c = elim (Contains-append_cases (x ∷ []) xs y c) [
  | inl one ↦ elim (Contains-push_cases [] x y one) [ inl none ↦ absurd (let lt = none.1 in omega (arith, lt)) | inr same ↦ inl same ]
  | inr later ↦ inr later
]

-- the first has its place among those that come
pub record AreNext (all : List (List ℕ)) (at : ℕ) (tops next : List ℕ) (i : ℕ) : Type 0 where
  pub first : Contains next at
  pub below : AreBelow all (take i tops) next
  pub within : (t : ℕ) → Contains next t → (t ≡ at) ⊎ Contains tops t

pub next_begun : (all : List (List ℕ)) (at : ℕ) (tops : List ℕ) → AreNext all at tops (at ∷ []) 0
next_begun all at tops = record {
  first = Contains-push [] at;
  below = λ k c. absurd (let lt = c.1 in omega (arith, lt));
  within = λ t c. elim (Contains-push_cases [] at t c) [ inl none ↦ absurd (let lt = none.1 in omega (arith, lt)) | inr same ↦ inl (sym same) ];
}

below_more : (all : List (List ℕ)) (tops next more : List ℕ) (i top : ℕ) → i < length tops → top ≡ slice_index_or tops i top → AreBelow all (take i tops) next → ((t : ℕ) → Contains next t → Contains more t)
    → (t : ℕ) × Contains more t × IsBelow (counts_at top all) (counts_at t all) → AreBelow all (take (i + 1) tops) more
below_more all tops next more i top lt is h grows here k c =
    elim (Contains-push_cases (take i tops) (slice_index_or tops i top) k (subst (λ z. Contains z k) (take_more tops i top lt) c)) [
      | inl old ↦ let f = h k old in (f.0, grows f.0 f.1, f.2)
      | inr same ↦ subst (λ z. (t : ℕ) × Contains more t × IsBelow (counts_at z all) (counts_at t all)) (is ∙ same) here
    ]

pub next_passed : (all : List (List ℕ)) (at : ℕ) (tops next : List ℕ) (i top : ℕ) → AreNext all at tops next i → i < length tops → top ≡ slice_index_or tops i top → IsBelow (counts_at top all) (counts_at at all) → AreNext all at tops next (i + 1)
next_passed all at tops next i top h lt is below = record {
  first = h.first;
  below = below_more all tops next next i top lt is h.below (λ t c. c) (at, h.first, below);
  within = h.within;
}

pub next_kept : (all : List (List ℕ)) (at : ℕ) (tops next more : List ℕ) (i top : ℕ) → AreNext all at tops next i → i < length tops → top ≡ slice_index_or tops i top → more ≡ next ++ top ∷ [] → AreNext all at tops more (i + 1)
next_kept all at tops next more i top h lt is e =
    let among : Contains tops top = (i, lt, sym is) in
    subst (λ z. AreNext all at tops z (i + 1)) (sym e)
    (record {
      first = Contains-append_left next (top ∷ []) at h.first;
      below = below_more all tops next (next ++ top ∷ []) i top lt is h.below (λ t c. Contains-append_left next (top ∷ []) t c) (top, Contains-push next top, below_itself (counts_at top all));
      within = λ t c. elim (Contains-push_cases next top t c) [ inl old ↦ h.within t old | inr same ↦ inr (subst (Contains tops) same among) ];
    })

pub next_all : (all : List (List ℕ)) (at : ℕ) (tops next : List ℕ) (n : ℕ) → AreNext all at tops next n → length tops ≤ n → AreBelow all (at ∷ tops) next
next_all all at tops next n h le k c = elim (head_or_later at tops k c) [
  | inl same ↦ (at, h.first, subst (λ z. IsBelow (counts_at z all) (counts_at at all)) same (below_itself (counts_at at all)))
  | inr later ↦ h.below k (subst (λ z. Contains z k) (sym (take_all n tops le)) later)
]

-- where one of them has all that it has
pub next_none : (all : List (List ℕ)) (at : ℕ) (tops : List ℕ) → (t : ℕ) × Contains tops t × IsBelow (counts_at at all) (counts_at t all) → AreBelow all (at ∷ tops) tops
next_none all at tops f k c = elim (head_or_later at tops k c) [
  | inl same ↦ subst (λ z. (t : ℕ) × Contains tops t × IsBelow (counts_at z all) (counts_at t all)) same f
  | inr later ↦ (k, later, below_itself (counts_at k all))
]

pub tops_none : (all : List (List ℕ)) → AreMaximal all 0 []
tops_none all k lt = absurd (omega (arith, lt))

pub tops_more : (all : List (List ℕ)) (n : ℕ) (tops next : List ℕ) → AreMaximal all n tops → AreBelow all (n ∷ tops) next → AreMaximal all (n + 1) next
tops_more all n tops next h below k lt = elim (cases_eq n k) [
  | inl e ↦ below k (subst (λ z. Contains (n ∷ tops) z) e (Contains-append_left (n ∷ []) tops n (Contains-push [] n)))
  | inr ne ↦
      let f = h k (let b = lt in omega (arith, b, ne)) in
      let g = below f.0 (Contains-append_right (n ∷ []) tops f.0 f.1) in
      (g.0, g.1, below_further (counts_at k all) (counts_at f.0 all) (counts_at g.0 all) f.2 g.2)
]

pub within_more : (n : ℕ) (tops next : List ℕ) → ((t : ℕ) → Contains tops t → t < n) → ((t : ℕ) → Contains next t → (t ≡ n) ⊎ Contains tops t) → (t : ℕ) → Contains next t → t < n + 1
within_more n tops next h f t c = elim (f t c) [ inl e ↦ omega (arith, e) | inr old ↦ let lt = h t old in omega (arith, lt) ]

-- ---- the tops of some

pub none_below : (all : List (List ℕ)) (among tops : List ℕ) → AreBelow all (take 0 among) tops
none_below all among tops k c = absurd (let lt = c.1 in omega (arith, lt))

pub some_more : (all : List (List ℕ)) (among tops next : List ℕ) (i at : ℕ) → i < length among → at ≡ slice_index_or among i at → AreBelow all (take i among) tops → AreBelow all (at ∷ tops) next → AreBelow all (take (i + 1) among) next
some_more all among tops next i at lt is h below k c =
    elim (Contains-push_cases (take i among) (slice_index_or among i at) k (subst (λ z. Contains z k) (take_more among i at lt) c)) [
      | inl old ↦
          let f = h k old in
          let g = below f.0 (Contains-append_right (at ∷ []) tops f.0 f.1) in
          (g.0, g.1, below_further (counts_at k all) (counts_at f.0 all) (counts_at g.0 all) f.2 g.2)
      | inr same ↦ below k (subst (λ z. Contains (at ∷ tops) z) (is ∙ same) (Contains-append_left (at ∷ []) tops at (Contains-push [] at)))
    ]

pub among_more : (among tops next : List ℕ) (i at : ℕ) → i < length among → at ≡ slice_index_or among i at → ((t : ℕ) → Contains tops t → Contains (take i among) t) → ((t : ℕ) → Contains next t → (t ≡ at) ⊎ Contains tops t)
    → (t : ℕ) → Contains next t → Contains (take (i + 1) among) t
among_more among tops next i at lt is h f t c =
    subst (λ z. Contains z t) (sym (take_more among i at lt)) (elim (f t c) [
      | inl same ↦ subst (λ z. Contains (take i among ++ slice_index_or among i at ∷ []) z) (sym (same ∙ is)) (Contains-push (take i among) (slice_index_or among i at))
      | inr old ↦ Contains-append_left (take i among) (slice_index_or among i at ∷ []) t (h t old)
    ])
