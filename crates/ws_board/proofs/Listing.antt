-- Numbers in lists: how often, and whether at all.
use Rattle.std.proofs.Common.{◌≡◌, ℕ, zero, suc, ◌<◌, Bool, true, false, ◌||◌, cond, eqb, List, [], ◌∷◌, ◌++◌, refl, ap, ◌∙◌, arith, inl, inr, ◌⊎◌}
use Rattle.std.specs.List.{list_any, Contains}
use Rattle.std.proofs.lemmas.List.Sums.{sum_by-cons}
use Rattle.std.proofs.lemmas.Bool.Decides.{nat_tests}
use Rattle.ws_board.specs.Rows.{times}

pub any_push : (p : ℕ → Bool) (xs : List ℕ) (x : ℕ) → list_any p (xs ++ x ∷ []) ≡ (list_any p xs || p x)
any_push p [] x = or_false (p x)
  where
    or_false : (b : Bool) → (b || false) ≡ b
    or_false true = refl
    or_false false = refl
any_push p (y ∷ ys) x = ap (λ b. p y || b) (any_push p ys x) ∙ or_assoc (p y) (list_any p ys) (p x)
  where
    or_assoc : (a b c : Bool) → (a || (b || c)) ≡ ((a || b) || c)
    or_assoc true b c = refl
    or_assoc false b c = refl

pub eqb_same : (n : ℕ) → (eqb n n) ≡ true
eqb_same n = grind (arith, nat_tests)

pub eqb_not : (a b : ℕ) → (a ≡ b → ⊥) → (eqb a b) ≡ false
eqb_not a b ne = grind (arith, nat_tests)

pub contains_any : (xs : List ℕ) (x : ℕ) → Contains xs x → list_any (λ k. eqb k x) xs ≡ true
contains_any [] x c = absurd (omega (arith, c.1))
contains_any (y ∷ ys) x (zero, lt, e) = ap (λ b. b || list_any (λ k. eqb k x) ys) (ap (λ z. eqb z x) e ∙ eqb_same x)
contains_any (y ∷ ys) x (suc k, lt, e) = ap (λ b. (eqb y x) || b) (contains_any ys x (k, omega (arith, lt), e)) ∙ or_true (eqb y x)
  where
    or_true : (b : Bool) → (b || true) ≡ true
    or_true true = refl
    or_true false = refl

or_parts : (a b : Bool) → (a || b) ≡ true → (a ≡ true) ⊎ (b ≡ true)
or_parts true b h = inl refl
or_parts false b h = inr h

pub times_none : (xs : List ℕ) (x : ℕ) → times x xs ≡ 0 → list_any (λ k. eqb k x) xs ≡ false
times_none [] x h = refl
times_none (y ∷ ys) x h = by_head (eqb y x) refl (λ none. times_none ys x none)
  where
    by_head : (b : Bool) → eqb y x ≡ b → (times x ys ≡ 0 → list_any (λ k. eqb k x) ys ≡ false) → ((eqb y x) || list_any (λ k. eqb k x) ys) ≡ false
    by_head true e rest = (let a : ◌≡◌ {A = ℕ} (cond (eqb y x) 1 0) 1 = ap (λ b. cond b 1 0) e in absurd (omega (arith, sum_by-cons (λ j. cond (eqb j x) 1 0) y ys, a, h)))
    by_head false e rest = ap (λ b. b || list_any (λ k. eqb k x) ys) e ∙ rest (let a : ◌≡◌ {A = ℕ} (cond (eqb y x) 1 0) 0 = ap (λ b. cond b 1 0) e in omega (arith, sum_by-cons (λ j. cond (eqb j x) 1 0) y ys, a, h))

pub times_some : (xs : List ℕ) (x : ℕ) → list_any (λ k. eqb k x) xs ≡ true → 0 < times x xs
times_some [] x h = absurd (cc)
times_some (y ∷ ys) x h = elim (or_parts (eqb y x) (list_any (λ k. eqb k x) ys) h) [
  | inl e ↦ (let a : ◌≡◌ {A = ℕ} (cond (eqb y x) 1 0) 1 = ap (λ b. cond b 1 0) e in omega (arith, sum_by-cons (λ j. cond (eqb j x) 1 0) y ys, a))
  | inr r ↦ (let a = times_some ys x r in omega (arith, sum_by-cons (λ j. cond (eqb j x) 1 0) y ys, a))
]

pub times_any : (xs : List ℕ) (x : ℕ) (b : Bool) → times x xs ≡ cond b 1 0 → list_any (λ k. eqb k x) xs ≡ b
times_any xs x true h = by_any (list_any (λ k. eqb k x) xs) refl
  where
    by_any : (c : Bool) → list_any (λ k. eqb k x) xs ≡ c → list_any (λ k. eqb k x) xs ≡ true
    by_any true e = e
    by_any false e = absurd (absent xs e h)
      where
        absent : (ys : List ℕ) → list_any (λ k. eqb k x) ys ≡ false → times x ys ≡ 1 → ⊥
        absent [] e h = absurd (omega (arith, h))
        absent (y ∷ ys) e h =
            let p = both_false (eqb y x) (list_any (λ k. eqb k x) ys) e in
            let a : ◌≡◌ {A = ℕ} (cond (eqb y x) 1 0) 0 = ap (λ b. cond b 1 0) p.0 in
            absent ys p.1 (omega (arith, sum_by-cons (λ j. cond (eqb j x) 1 0) y ys, a, h))
          where
            both_false : (a b : Bool) → (a || b) ≡ false → (a ≡ false) × (b ≡ false)
            both_false false b h = (refl, h)
            both_false true b h = absurd (cc)
times_any xs x false h = times_none xs x h
