-- A map stands for the set of its own entries; what is known at one key.
use Rattle.std.specs.Prelude.{◌≡◌, zero, suc, Bool, true, false, cond, T, ◌&&◌, List, [], ◌∷◌, ◌⊎◌, refl, Option, Some, None}
use Rattle.std.specs.List.{Contains}
use Rattle.std.specs.declared.cmp.Ordering.{Ordering}
use Rattle.std.specs.declared.cmp.Ordering.TheVariants.{Less, Equal, Greater}
use Rattle.std.specs.Ordering.{is_gt, is_eq}
use Rattle.std.specs.Cmp.{IsTotalOrder}
use Rattle.std.specs.FinMap.{FinMap, get, entries, entries_sorted, is_sorted, IsAntisymmetric, find, get-entries}
use Rattle.std.proofs.lemmas.Cmp.{tied_itself}
use Rattle.std.proofs.Common.{sym, ap, subst, ◌∙◌, inl, inr, arith}
use Rattle.ws_map.specs.Kept.{StandsFor, StandsAt}
use Rattle.ws_map.proofs.Gathered.{find_above}

-- what a list contains is its first element, or in the rest
pub Contains-cons_cases : {A : Type 0} (x : A) (xs : List A) (a : A) → Contains (x ∷ xs) a → (x ≡ a) ⊎ Contains xs a
Contains-cons_cases x xs a (zero, lt, e) = inl e
Contains-cons_cases x xs a (suc k, lt, e) = inr (k, omega arith, e)

pub Contains-first : {A : Type 0} (x : A) (xs : List A) → Contains (x ∷ xs) x
Contains-first x xs = (0, omega arith, refl)

pub Contains-later : {A : Type 0} (x : A) (xs : List A) (a : A) → Contains xs a → Contains (x ∷ xs) a
Contains-later x xs a (k, lt, e) = (suc k, omega arith, e)

second_part : (a b : Bool) → T (a && b) → T b
second_part true b h = h
second_part false b h = absurd h

equal_test : (r : Ordering) → is_eq r ≡ true → r ≡ Equal
equal_test Less e = cc
equal_test Equal e = refl
equal_test Greater e = cc

none_in_empty : {A : Type 0} (a : A) → ¬ (Contains [] a)
none_in_empty a c = absurd (omega (arith, c.1))

none_is_some : {A : Type 0} (x : A) (o : Option A) → o ≡ None → o ≡ Some x → ⊥
none_is_some x o e f = cc

module _ {K X : Type 0} {C : K → K → Ordering} (o : IsTotalOrder C) (same : IsAntisymmetric C) where
  found_here : (q k : K) (x y : X) (es : List (K × X)) → ◌≡◌ {A = K × X} (k, x) (q, y) → find C q ((k, x) ∷ es) ≡ Some y
  found_here q k x y es e =
      let keys : k ≡ q = ap (λ (p : K × X). p.0) e in
      ap (λ r. cond (is_eq r) (Some x) (find C q es)) (ap (C q) keys ∙ tied_itself o q) ∙ ap (λ (p : K × X). Some p.1) e

  found_later : (q k : K) (x y : X) (es : List (K × X)) → T (is_sorted C ((k, x) ∷ es)) → find C q es ≡ Some y → find C q ((k, x) ∷ es) ≡ Some y
  found_later q k x y es s e = elim (is_eq (C q k)) as (λ b. is_eq (C q k) ≡ b → cond b (Some x) (find C q es) ≡ Some y) [
    | true ↦ λ t. absurd (none_is_some y (find C q es) (find_above o q k x (equal_test (C q k) t) es s) e)
    | false ↦ λ t. e
  ] refl

  -- what a sorted list contains is found
  find-contained : (es : List (K × X)) → T (is_sorted C es) → (q : K) (y : X) → Contains es (q, y) → find C q es ≡ Some y
  find-contained [] s q y c = absurd (none_in_empty (q, y) c)
  find-contained (e ∷ es) s q y c = elim (Contains-cons_cases e es (q, y) c) [
    | inl here ↦ found_here q e.0 e.1 y es here
    | inr later ↦ found_later q e.0 e.1 y es s (find-contained es (second_part _ _ s) q y later)
  ]

  same_pair : (q k : K) (x y : X) → q ≡ k → x ≡ y → ◌≡◌ {A = K × X} (k, x) (q, y)
  same_pair q k x y e f = λ i. (sym e i, f i)

  -- what is found is contained
  contained-find : (es : List (K × X)) (q : K) (y : X) → find C q es ≡ Some y → Contains es (q, y)
  contained-find [] q y = λ e. absurd (none_is_some y None refl e)
  contained-find (p ∷ es) q y = elim (is_eq (C q p.0)) as (λ b. is_eq (C q p.0) ≡ b → cond b (Some p.1) (find C q es) ≡ Some y → Contains (p ∷ es) (q, y)) [
    | true ↦ λ t e. subst (Contains (p ∷ es)) (same_pair q p.0 p.1 y (same q p.0 (equal_test (C q p.0) t)) (let f : Some p.1 ≡ Some y = e in cc)) (Contains-first p es)
    | false ↦ λ t e. Contains-later p es (q, y) (contained-find es q y e)
  ] refl

  -- the entries of a map are what it gets
  pub get-contained : (m : FinMap C X) (q : K) (y : X) → Contains (entries m) (q, y) → get m q ≡ Some y
  get-contained m q y c = get-entries m q ∙ find-contained (entries m) (entries_sorted m) q y c

  pub contained-get : (m : FinMap C X) (q : K) (y : X) → get m q ≡ Some y → Contains (entries m) (q, y)
  contained-get m q y e = contained-find (entries m) q y (sym (get-entries m q) ∙ e)

  module _ {R : X → X → Ordering} (r : IsTotalOrder R) where
    at_itself : (m : FinMap C X) (q : K) (kept : Option X) → get m q ≡ kept → StandsAt R (entries m) q kept
    at_itself m q None e = λ y c. none_is_some y (get m q) e (get-contained m q y c)
    at_itself m q (Some x) e = record {
      among = contained-get m q x e;
      above = λ y c. let both : Some y ≡ Some x = sym (get-contained m q y c) ∙ e in
          let one : y ≡ x = cc in
          subst (λ z. is_gt (R z x) ≡ false) (sym one) (ap is_gt (tied_itself r x));
    }

    pub stands_for-entries : (m : FinMap C X) → StandsFor R m (entries m)
    unfolding StandsFor
    stands_for-entries m = λ q. at_itself m q (get m q) refl

module _ {K X : Type 0} {C : K → K → Ordering} (R : X → X → Ordering) where
  -- what a map that stands for a set has at one key
  pub stands_at : (m : FinMap C X) (W : List (K × X)) → StandsFor R m W → (q : K) → StandsAt R W q (get m q)
  unfolding StandsFor
  stands_at m W h q = h q

  -- a member of the set is kept, or what is kept in its place is no less
  pub held_or_above : (m : FinMap C X) (W : List (K × X)) → StandsFor R m W → (q : K) (y : X) → Contains W (q, y) → (x : X) × (get m q ≡ Some x) × Contains W (q, x) × (is_gt (R y x) ≡ false)
  held_or_above m W h q y c = elim (get m q) as (λ kept. get m q ≡ kept → StandsAt R W q kept → (x : X) × (get m q ≡ Some x) × Contains W (q, x) × (is_gt (R y x) ≡ false)) [
    | None ↦ λ e at. absurd (at y c)
    | (Some x) ↦ λ e at. (x, e, at.among, at.above y c)
  ] refl (stands_at m W h q)

  -- what is kept is a member
  pub kept_is_member : (m : FinMap C X) (W : List (K × X)) → StandsFor R m W → (q : K) (x : X) → get m q ≡ Some x → Contains W (q, x)
  kept_is_member m W h q x e = let at : StandsAt R W q (Some x) = subst (StandsAt R W q) e (stands_at m W h q) in at.among
