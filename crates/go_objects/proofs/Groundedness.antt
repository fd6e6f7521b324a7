-- Whether a walk goes on for ever is decided.
use Rattle.std.proofs.Common.{◌≡◌, ◌⊎◌, ℕ, zero, suc, ◌+◌, ◌<◌, ◌≤◌, Bool, true, false, cond, List, [], ◌∷◌, Option, Some, None, length, refl, sym, ap, ◌∙◌, inl, inr, arith}
use Rattle.std.specs.List.{slice_get, list_all}
use Rattle.std.specs.Prelude.{unwrap_or, ◌&&◌}
use Rattle.std.proofs.lemmas.Bool.{cases_Bool, cases_eq}
use Rattle.ws_reach.specs.Reach.{Edge, EdgesStayWithin}
use Rattle.ws_reach.proofs.Reached.{contains_get, get_contains}
use Rattle.go_scope.specs.Order.{GroundedIn, Grounded}

row_at : List (List ℕ) → ℕ → List ℕ
row_at rows i = unwrap_or (slice_get rows i) []

-- each walk from it has fewer edges than that
ends_in : List (List ℕ) → ℕ → ℕ → Bool
ends_in rows zero i = false
ends_in rows (suc n) i = list_all (ends_in rows n) (row_at rows i)

all_at : (test : ℕ → Bool) (xs : List ℕ) (k x : ℕ) → list_all test xs ≡ true → slice_get xs k ≡ Some x → test x ≡ true
all_at test [] k x h at = cc
all_at test (y ∷ xs) zero x h at = elim (cases_Bool (test y)) [
  | inl t ↦ (let e : y ≡ x = cc in ap test (sym e) ∙ t)
  | inr f ↦ (let no : false ≡ true = sym (ap (λ b. b && list_all test xs) f) ∙ h in cc (no))
]
all_at test (y ∷ xs) (suc k) x h at = elim (cases_Bool (test y)) [
  | inl t ↦ all_at test xs k x (sym (ap (λ b. b && list_all test xs) t) ∙ h) at
  | inr f ↦ (let no : false ≡ true = sym (ap (λ b. b && list_all test xs) f) ∙ h in cc (no))
]

all_from : (test : ℕ → Bool) (xs : List ℕ) → ((k x : ℕ) → slice_get xs k ≡ Some x → test x ≡ true) → list_all test xs ≡ true
all_from test [] h = refl
all_from test (y ∷ xs) h = ap (λ b. b && list_all test xs) (h 0 y refl) ∙ all_from test xs (λ k x at. h (suc k) x at)

edge_at : (rows : List (List ℕ)) (i k x : ℕ) → slice_get (row_at rows i) k ≡ Some x → Edge rows i x
unfolding row_at
edge_at rows i k x at = elim (slice_get rows i) as (λ o. slice_get rows i ≡ o → slice_get (unwrap_or o []) k ≡ Some x → Edge rows i x) [
  | None ↦ λ is none. cc (none)
  | Some row ↦ λ is here. (row, is, get_contains row k x here)
] refl at

at_edge : (rows : List (List ℕ)) (i x : ℕ) → Edge rows i x → (k : ℕ) × (slice_get (row_at rows i) k ≡ Some x)
unfolding row_at
at_edge rows i x (row, is, c) = (c.0, ap (λ (o : Option (List ℕ)). slice_get (unwrap_or o []) c.0) is ∙ contains_get row x c)

ends_grounded : (rows : List (List ℕ)) (n i : ℕ) → ends_in rows n i ≡ true → GroundedIn rows n i
unfolding ends_in
ends_grounded rows zero i h = cc
ends_grounded rows (suc n) i h = λ j e. (let at = at_edge rows i j e in ends_grounded rows n j (all_at (ends_in rows n) (row_at rows i) at.0 j h at.1))

grounded_ends : (rows : List (List ℕ)) (n i : ℕ) → GroundedIn rows n i → ends_in rows n i ≡ true
unfolding ends_in
grounded_ends rows zero i g = absurd g
grounded_ends rows (suc n) i g = all_from (ends_in rows n) (row_at rows i) (λ k x at. grounded_ends rows n x (g x (edge_at rows i k x at)))

deeper : (rows : List (List ℕ)) (n i : ℕ) → GroundedIn rows n i → GroundedIn rows (suc n) i
deeper rows zero i g = absurd g
deeper rows (suc n) i g = λ j e. deeper rows n j (g j e)

-- no walk from one below the size is longer than that
abbrev Stable : List (List ℕ) → ℕ → Type 0
Stable rows n = (i : ℕ) → i < length rows → ends_in rows (suc n) i ≡ true → ends_in rows n i ≡ true

stays : (rows : List (List ℕ)) → EdgesStayWithin rows → (n : ℕ) → Stable rows n → (m i : ℕ) → i < length rows → GroundedIn rows m i → GroundedIn rows n i
stays rows within n stable zero i lt g = absurd g
stays rows within n stable (suc m) i lt g =
    let above : GroundedIn rows (suc n) i = λ j e. stays rows within n stable m j (within i j e) (g j e) in
    ends_grounded rows n i (stable i lt (grounded_ends rows (suc n) i above))

-- how many below a number pass a test
passing : (ℕ → Bool) → ℕ → ℕ
passing test zero = 0
passing test (suc l) = cond (test l) 1 0 + passing test l

few : (test : ℕ → Bool) (l : ℕ) → passing test l ≤ l
unfolding passing
few test zero = omega arith
few test (suc l) = elim (cases_Bool (test l)) [
  | inl t ↦ rw t (omega (arith, few test l))
  | inr f ↦ rw f (omega (arith, few test l))
]

abbrev Implies : (ℕ → Bool) → (ℕ → Bool) → ℕ → Type 0
Implies f g l = (i : ℕ) → i < l → f i ≡ true → g i ≡ true

-- a test that implies another has fewer that pass, or is implied by it
grows : (f g : ℕ → Bool) (l : ℕ) → Implies f g l → (passing f l ≤ passing g l) × (Implies g f l ⊎ (passing f l < passing g l))
unfolding passing
grows f g zero h = (omega arith, inl (λ i lt. absurd (omega (arith, lt))))
grows f g (suc l) h =
    let before = grows f g l (λ i lt. h i (omega (arith, lt))) in
    elim (cases_Bool (f l)) [
      | inl t ↦ (
          let also = h l (omega arith) t in (
            rw (t, also) (omega (arith, before.0)),
            elim before.1 [
              | inl back ↦ inl (λ i lt p. elim (cases_eq i l) [ inl e ↦ ap f e ∙ t | inr ne ↦ back i (omega (arith, lt, ne)) p ])
              | inr more ↦ inr (rw (t, also) (omega (arith, more)))
            ],
          ))
      | inr fl ↦ elim (cases_Bool (g l)) [
        | inl gl ↦ (rw (fl, gl) (omega (arith, before.0)), inr (rw (fl, gl) (omega (arith, before.0))))
        | inr gl ↦ (
          rw (fl, gl) (omega (arith, before.0)),
          elim before.1 [
            | inl back ↦ inl (λ i lt p. elim (cases_eq i l) [ inl e ↦ (let no : true ≡ false = sym p ∙ ap g e ∙ gl in cc (no)) | inr ne ↦ back i (omega (arith, lt, ne)) p ])
            | inr more ↦ inr (rw (fl, gl) (omega (arith, more)))
          ],
        )
      ]
    ]

next : (rows : List (List ℕ)) (n i : ℕ) → ends_in rows n i ≡ true → ends_in rows (suc n) i ≡ true
next rows n i h = grounded_ends rows (suc n) i (deeper rows n i (ends_grounded rows n i h))

stable_or_many : (rows : List (List ℕ)) (n : ℕ) → ((m : ℕ) × Stable rows m) ⊎ (n ≤ passing (ends_in rows n) (length rows))
stable_or_many rows zero = inr (omega arith)
stable_or_many rows (suc n) = elim (stable_or_many rows n) [
  | inl found ↦ inl found
  | inr many ↦ elim (grows (ends_in rows n) (ends_in rows (suc n)) (length rows) (λ i lt. next rows n i)).1 [
    | inl back ↦ inl (n, back)
    | inr more ↦ inr (omega (arith, many, more))
  ]
]

stable : (rows : List (List ℕ)) → (m : ℕ) × Stable rows m
stable rows = elim (stable_or_many rows (suc (length rows))) [
  | inl found ↦ found
  | inr many ↦ absurd (omega (arith, many, few (ends_in rows (suc (length rows))) (length rows)))
]

pub is_grounded : (rows : List (List ℕ)) → EdgesStayWithin rows → (i : ℕ) → i < length rows → Grounded rows i ⊎ (Grounded rows i → ⊥)
is_grounded rows within i lt =
    let s = stable rows in
    elim (cases_Bool (ends_in rows s.0 i)) [
      | inl t ↦ inl (s.0, ends_grounded rows s.0 i t)
      | inr f ↦ inr (λ g. (let no : true ≡ false = sym (grounded_ends rows s.0 i (stays rows within s.0 s.1 g.0 i lt g.1)) ∙ f in cc (no)))
    ]
