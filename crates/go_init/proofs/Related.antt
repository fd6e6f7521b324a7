-- Lists of which each element is related to the one at its place: turns keep that, where related elements wait alike.
use Rattle.std.proofs.Common.{◌≡◌, ℕ, zero, suc, ◌+◌, Bool, ◌||◌, not, List, [], ◌∷◌, ◌++◌, length, Option, Some, None, refl, sym, ap, ◌∙◌, inl, inr, arith, append_assoc}
use Rattle.std.specs.Prelude.{⊤, option_map}
use Rattle.std.specs.List.{filter_map, list_any, range_with_len, slice_get}
use Rattle.std.proofs.lemmas.Bool.{cases_Bool}
use Rattle.std.proofs.lemmas.List.{length-append}
use Rattle.go_init.specs.Turns.{first_passing, turn_order}

module _ {A B : Type 0} (R : A → B → Type 0) where
  abbrev pub AreRelated : List A → List B → Type 0
  AreRelated [] [] = ⊤
  AreRelated [] (y ∷ ys) = ⊥
  AreRelated (x ∷ xs) [] = ⊥
  AreRelated (x ∷ xs) (y ∷ ys) = R x y × AreRelated xs ys

  AreFirsts : Option (A × List A) → Option (B × List B) → Type 0
  AreFirsts None None = ⊤
  AreFirsts None (Some s) = ⊥
  AreFirsts (Some r) None = ⊥
  AreFirsts (Some r) (Some s) = R r.0 s.0 × AreRelated r.1 s.1

  any_alike : (f : A → Bool) (g : B → Bool) → ((x : A) (y : B) → R x y → f x ≡ g y) → (xs : List A) (ys : List B) → AreRelated xs ys → list_any f xs ≡ list_any g ys
  any_alike f g same [] [] r = refl
  any_alike f g same [] (y ∷ ys) r = absurd r
  any_alike f g same (x ∷ xs) [] r = absurd r
  any_alike f g same (x ∷ xs) (y ∷ ys) r = ap (λ b. b || list_any f xs) (same x y r.0) ∙ ap (λ b. g y || b) (any_alike f g same xs ys r.1)

  more : (x : A) (y : B) → R x y → (o : Option (A × List A)) (q : Option (B × List B)) → AreFirsts o q
      → AreFirsts (option_map {U = A × List A} (λ (r : A × List A). (r.0, x ∷ r.1)) o) (option_map {U = B × List B} (λ (r : B × List B). (r.0, y ∷ r.1)) q)
  unfolding AreFirsts
  more x y r None None h = tt
  more x y r None (Some s) h = absurd h
  more x y r (Some s) None h = absurd h
  more x y r (Some s) (Some t) h = (h.0, (r, h.1))

  first_alike : (f : A → Bool) (g : B → Bool) → ((x : A) (y : B) → R x y → f x ≡ g y) → (xs : List A) (ys : List B) → AreRelated xs ys → AreFirsts (first_passing f xs) (first_passing g ys)
  unfolding AreFirsts
  first_alike f g same [] [] r = tt
  first_alike f g same [] (y ∷ ys) r = absurd r
  first_alike f g same (x ∷ xs) [] r = absurd r
  first_alike f g same (x ∷ xs) (y ∷ ys) r = elim (cases_Bool (g y)) [
    | inl t ↦ rw (same x y r.0 ∙ t) (rw t r)
    | inr n ↦ rw (same x y r.0 ∙ n) (rw n (more x y r.0 (first_passing f xs) (first_passing g ys) (first_alike f g same xs ys r.1)))
  ]

  module _ (waits : A → A → Bool) (holds : B → B → Bool) (alike : (x x1 : A) (y y1 : B) → R x y → R x1 y1 → waits x x1 ≡ holds y y1) where
    abbrev Turned : List A × List A → List B × List B → Type 0
    Turned r s = AreRelated r.0 s.0 × AreRelated r.1 s.1

    turned_by : (n : ℕ) (xs : List A) (ys : List B) → AreRelated xs ys → (o : Option (A × List A)) (q : Option (B × List B)) → AreFirsts o q
        → ((us : List A) (vs : List B) → AreRelated us vs → Turned (turn_order waits n us) (turn_order holds n vs))
        → Turned (elim o [ None ↦ ([], xs) | Some r ↦ (let rest = turn_order waits n r.1 in (r.0 ∷ rest.0, rest.1)) ]) (elim q [ None ↦ ([], ys) | Some r ↦ (let rest = turn_order holds n r.1 in (r.0 ∷ rest.0, rest.1)) ])
    unfolding AreFirsts
    turned_by n xs ys r None None h later = (tt, r)
    turned_by n xs ys r None (Some s) h later = absurd h
    turned_by n xs ys r (Some s) None h later = absurd h
    turned_by n xs ys r (Some s) (Some t) h later = (let l = later s.1 t.1 h.1 in ((h.0, l.0), l.1))

    pub turned : (n : ℕ) (xs : List A) (ys : List B) → AreRelated xs ys → AreRelated (turn_order waits n xs).0 (turn_order holds n ys).0 × AreRelated (turn_order waits n xs).1 (turn_order holds n ys).1
    turned zero xs ys r = (tt, r)
    turned (suc n) xs ys r =
        turned_by n xs ys r (first_passing (λ x. not (list_any (waits x) xs)) xs) (first_passing (λ y. not (list_any (holds y) ys)) ys)
        (first_alike (λ x. not (list_any (waits x) xs)) (λ y. not (list_any (holds y) ys)) (λ x y h. ap not (any_alike (waits x) (holds y) (λ x1 y1 h1. alike x x1 y y1 h h1) xs ys r)) xs ys r)
        (turned n)

-- ---- numbers and what stands at them

module _ {B : Type 0} (all : List B) where
  abbrev pub StandsAt : ℕ → B → Type 0
  StandsAt k y = slice_get all k ≡ Some y

  pub numbered : (ks : List ℕ) (ys : List B) → AreRelated StandsAt ks ys → filter_map (slice_get all) ks ≡ ys
  numbered [] [] r = refl
  numbered [] (y ∷ ys) r = absurd r
  numbered (k ∷ ks) [] r = absurd r
  numbered (k ∷ ks) (y ∷ ys) r = rw r.0 (ap (λ l. y ∷ l) (numbered ks ys r.1))

  at_length : {A : Type 0} (before : List A) (y : A) (after : List A) → slice_get (before ++ y ∷ after) (length before) ≡ Some y
  at_length [] y after = refl
  at_length (z ∷ zs) y after = at_length zs y after

  counted_from : (before rest : List B) → all ≡ before ++ rest → (n : ℕ) → n ≡ length before → AreRelated StandsAt (range_with_len n (length rest)) rest
  counted_from before [] is n at = tt
  counted_from before (y ∷ ys) is n at = (
    ap (λ l. slice_get l n) is ∙ ap (slice_get (before ++ y ∷ ys)) at ∙ at_length before y ys,
    counted_from (before ++ y ∷ []) ys (is ∙ sym (append_assoc before (y ∷ []) ys)) (n + 1) (omega (arith, at, length-append before (y ∷ []))),
  )

  pub counted : AreRelated StandsAt (range_with_len 0 (length all)) all
  counted = counted_from [] all refl 0 refl
