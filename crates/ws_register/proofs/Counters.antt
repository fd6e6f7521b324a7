-- The greatest counter is a matter of the writes taken.
use Rattle.std.specs.Prelude.{◌≡◌, ◌≤◌, ◌<◌, ℕ, false, max, List, [], ◌∷◌, ◌++◌, ◌⊎◌, refl, Option, Some, None}
use Rattle.std.specs.List.{Contains}
use Rattle.std.specs.declared.cmp.Ordering.{Ordering}
use Rattle.std.specs.declared.cmp.Ordering.TheVariants.{Less, Equal, Greater}
use Rattle.std.specs.Ordering.{nat_cmp, ordering_then, is_gt}
use Rattle.std.specs.FinMap.{get, empty, entries, get-empty}
use Rattle.std.proofs.lemmas.Bool.{cases_lt}
use Rattle.std.proofs.lemmas.Cmp.{ranked}
use Rattle.std.proofs.Common.{ap, subst, inl, inr, arith}
use Rattle.ws_map.specs.Kept.{StandsFor, SameMembers, joined, taken}
use Rattle.ws_map.proofs.Gathered.{stands_for-taken}
use Rattle.ws_map.proofs.Itself.{Contains-cons_cases, Contains-first, Contains-later, held_or_above, kept_is_member, stands_for-entries}
use Rattle.ws_map.proofs.Kept.{stands_for-joined}
use Rattle.ws_version.specs.Writes.{Held, Write, held_cmp, greater_held, path_cmp}
use Rattle.ws_version.specs.Laws.{held_cmp_total}
use Rattle.ws_version.proofs.Writes.{path_cmp_total, path_cmp-IsAntisymmetric}
use Rattle.ws_register.specs.Edits.{Contents, top, greatest_counter, IsGreatestCounter}

none_in_empty : {A : Type 0} (a : A) → ¬ (Contains [] a)
none_in_empty a c = absurd (omega (arith, c.1))

-- no write that the list contains is above its top
pub counter_le_top : (W : List Write) (w : Write) → Contains W w → w.1.counter ≤ top W
counter_le_top [] w c = absurd (none_in_empty w c)
counter_le_top (v ∷ W) w c = elim (Contains-cons_cases v W w c) [
  | inl here ↦ let e : v.1.counter ≡ w.1.counter = ap (λ (x : Write). x.1.counter) here in omega arith
  | inr later ↦ let below = counter_le_top W w later in omega arith
]

-- a bound of each is a bound of the top
pub top_le : (W : List Write) (n : ℕ) → ((w : Write) → Contains W w → w.1.counter ≤ n) → top W ≤ n
top_le [] n h = omega arith
top_le (v ∷ W) n h =
    let first = h v (Contains-first v W) in
    let rest = top_le W n (λ w c. h w (Contains-later v W w c)) in
    omega arith

-- the top is a counter in the list, or there is none
pub top_attained : (W : List Write) → (top W ≡ 0) ⊎ ((w : Write) × Contains W w × (w.1.counter ≡ top W))
top_attained [] = inl refl
top_attained (v ∷ W) = elim (cases_lt v.1.counter (top W)) [
  | inl below ↦ elim (top_attained W) [
    | inl none ↦ absurd (omega arith)
    | inr held ↦ let e : held.0.1.counter ≡ max v.1.counter (top W) = omega (arith, held.2) in inr (held.0, Contains-later v W held.0 held.1, e)
  ]
  | inr above ↦ let e : v.1.counter ≡ max v.1.counter (top W) = omega arith in inr (v, Contains-first v W, e)
]

then_not_gt : (r s : Ordering) → is_gt (ordering_then r s) ≡ false → is_gt r ≡ false
then_not_gt Less s e = refl
then_not_gt Equal s e = refl
then_not_gt Greater s e = e

nat_not_gt : (x y : ℕ) → is_gt (nat_cmp x y) ≡ false → x ≤ y
nat_not_gt x y = elim (nat_cmp x y) as (λ r. r ≡ nat_cmp x y → is_gt r ≡ false → x ≤ y) [
  | Less ↦ λ e h. let lt : x < y = ranked x y Less e in omega arith
  | Equal ↦ λ e h. let same : x ≡ y = ranked x y Equal e in omega arith
  | Greater ↦ λ e h. cc
] refl

-- what isn't above has no greater counter
pub counter_le : (a b : Held) → is_gt (held_cmp a b) ≡ false → a.counter ≤ b.counter
counter_le a b e = nat_not_gt a.counter b.counter (then_not_gt _ _ e)

none_is_some : {A : Type 0} (x : A) (o : Option A) → o ≡ None → o ≡ Some x → ⊥
none_is_some x o e f = cc

-- nothing is held
pub counts-empty : IsGreatestCounter empty 0
counts-empty = record { bound = λ q h e. absurd (none_is_some h (get empty q) (get-empty path_cmp q) e); attained = inl refl }

-- the greatest counter of a map is the top of each set that it stands for
pub counts-top : (m : Contents) (n : ℕ) (W : List Write) → IsGreatestCounter m n → StandsFor held_cmp m W → n ≡ top W
counts-top m n W c h =
    let low : top W ≤ n = top_le W n (λ w in_W.
    let held = held_or_above held_cmp m W h w.0 w.1 in_W in
    let le = counter_le w.1 held.0 held.3 in
    let bound = c.bound w.0 held.0 held.1 in
    omega arith) in
    let high : n ≤ top W = elim c.attained [
      | inl none ↦ omega arith
      | inr held ↦ let le = counter_le_top W (held.0, held.1) (kept_is_member held_cmp m W h held.0 held.1 held.2) in omega (arith, held.3)
    ] in
    omega arith

-- of its own entries too
pub counts-entries : (m : Contents) (n : ℕ) → IsGreatestCounter m n → n ≡ greatest_counter m
counts-entries m n c = counts-top m n (entries m) c (stands_for-entries path_cmp_total path_cmp-IsAntisymmetric held_cmp_total m)

top-append : (V W : List Write) → top (V ++ W) ≡ max (top V) (top W)
top-append [] W = omega arith
top-append (v ∷ V) W = let rest = top-append V W in omega (arith, rest)

-- the top of a set is the greatest counter of a map that stands for it
pub counts-set : (m : Contents) (W : List Write) → StandsFor held_cmp m W → IsGreatestCounter m (top W)
counts-set m W h = record {
  bound = λ q held e. counter_le_top W (q, held) (kept_is_member held_cmp m W h q held e);
  attained = elim (top_attained W) [
    | inl none ↦ inl none
    | inr (w, in_W, e) ↦
        let held = held_or_above held_cmp m W h w.0 w.1 in_W in
        let low = counter_le w.1 held.0 held.3 in
        let high = counter_le_top W (w.0, held.0) held.2 in
        let same : held.0.counter ≡ top W = omega (arith, e) in
        inr (w.0, held.0, held.1, same)
  ];
}

module _ (m : Contents) (a : ℕ) (counted : IsGreatestCounter m a) where
  stands_for_itself : (m : Contents) → StandsFor held_cmp m (entries m)
  stands_for_itself = stands_for-entries path_cmp_total path_cmp-IsAntisymmetric held_cmp_total

  -- one more write
  pub counts-taken : (k : List ℕ) (x : Held) → IsGreatestCounter (taken greater_held m k x) (max a x.counter)
  counts-taken k x =
      let one : List Write = (k, x) ∷ [] in
      let more = stands_for-taken path_cmp_total path_cmp-IsAntisymmetric held_cmp_total m (entries m) k x (stands_for_itself m) in
      let is : top (entries m ++ one) ≡ max a x.counter = omega (arith, top-append (entries m) one, counts-entries m a counted) in
      subst (IsGreatestCounter (taken greater_held m k x)) is (counts-set (taken greater_held m k x) (entries m ++ one) more)

  -- the writes of two
  pub counts-joined : (n : Contents) (b : ℕ) → IsGreatestCounter n b → IsGreatestCounter (joined greater_held m n) (max a b)
  counts-joined n b other =
      let both = stands_for-joined held_cmp_total path_cmp_total m n (entries m) (entries n) (stands_for_itself m) (stands_for_itself n) in
      let is : top (entries m ++ entries n) ≡ max a b = omega (arith, top-append (entries m) (entries n), counts-entries m a counted, counts-entries n b other) in
      subst (IsGreatestCounter (joined greater_held m n)) is (counts-set (joined greater_held m n) (entries m ++ entries n) both)

-- two sets for which one map stands have one top
pub one_top : (m : Contents) (V W : List Write) → StandsFor held_cmp m V → StandsFor held_cmp m W → top V ≤ top W
one_top m V W g h = top_le V (top W) (λ w in_V.
    let held = held_or_above held_cmp m V g w.0 w.1 in_V in
    let le = counter_le w.1 held.0 held.3 in
    let bound = counter_le_top W (w.0, held.0) (kept_is_member held_cmp m W h w.0 held.0 held.1) in
    omega arith)

-- what is the greatest of all that is held is the greatest of all that was taken
pub greatest_counter-top : (m : Contents) (W : List Write) → StandsFor held_cmp m W → greatest_counter m ≡ top W
greatest_counter-top m W h =
    let itself = stands_for-entries path_cmp_total path_cmp-IsAntisymmetric held_cmp_total m in
    let low = one_top m (entries m) W itself h in
    let high = one_top m W (entries m) h itself in
    omega arith

-- membership alone matters
pub top-same : (V W : List Write) → SameMembers V W → top V ≡ top W
top-same V W same =
    let low = top_le V (top W) (λ w c. counter_le_top W w ((same w).0 c)) in
    let high = top_le W (top V) (λ w c. counter_le_top V w ((same w).1 c)) in
    omega arith
