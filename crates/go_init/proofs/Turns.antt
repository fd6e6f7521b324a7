-- Laws on things in turn.
use Rattle.std.proofs.Common.{◌≡◌, ℕ, zero, suc, ◌+◌, ◌≤◌, Bool, true, false, not, List, [], ◌∷◌, ◌++◌, length, Option, Some, None, refl, sym, ap, ◌∙◌, subst, inl, inr, ◌⊎◌, arith}
use Rattle.std.specs.Prelude.{if◌then◌else◌, option_map}
use Rattle.std.specs.List.{list_any}
use Rattle.ws_reach.proofs.Closure.{IsOneOf}
use Rattle.go_init.specs.Turns.{first_passing, turn_order}
use Rattle.go_init.proofs.Members.{Apart, any_one, one_any, one_here}

-- x is one that passes, and ys are the others
pub record IsFirst {A : Type 0} (test : A → Bool) (xs : List A) (x : A) (ys : List A) : Type 0 where
  pub one : IsOneOf x xs
  pub passes : test x ≡ true
  pub left : (y : A) → IsOneOf y ys → IsOneOf y xs
  pub others : (y : A) → IsOneOf y xs → (y ≡ x) ⊎ IsOneOf y ys
  pub fewer : suc (length ys) ≡ length xs
  pub apart : Apart xs → (IsOneOf x ys → ⊥) × Apart ys

module _ {A : Type 0} (test : A → Bool) where
  here : (z : A) (zs : List A) → test z ≡ true → IsFirst test (z ∷ zs) z zs
  here z zs is = record {
    one = inl refl;
    passes = is;
    left = λ y h. inr h;
    others = λ y h. h;
    fewer = refl;
    apart = λ a. a;
  }

  behind_it : (z : A) (zs : List A) (x : A) (ys : List A) → IsFirst test zs x ys → IsFirst test (z ∷ zs) x (z ∷ ys)
  behind_it z zs x ys f = record {
    one = inr f.one;
    passes = f.passes;
    left = λ y h. elim h [ inl e ↦ inl e | inr r ↦ inr (f.left y r) ];
    others = λ y h. elim h [ inl e ↦ inr (inl e) | inr r ↦ elim (f.others y r) [ inl e ↦ inl e | inr l ↦ inr (inr l) ] ];
    fewer = ap suc f.fewer;
    apart = λ a. (
      λ h. elim h [ inl e ↦ a.0 (subst (λ y. IsOneOf y zs) e f.one) | inr r ↦ (f.apart a.1).0 r ],
      (λ h. a.0 (f.left z h), (f.apart a.1).1),
    );
  }

  first_behind : (z : A) (zs : List A) (x : A) (ys : List A) (o : Option (A × List A)) → ((w : A) (ws : List A) → o ≡ Some (w, ws) → IsFirst test zs w ws) → ◌≡◌ {A = Option (A × List A)} (option_map {U = A × List A} (λ (r : A × List A). (r.0, z ∷ r.1)) o) (Some (x, ys)) → IsFirst test (z ∷ zs) x ys
  first_behind z zs x ys None later e = cc
  first_behind z zs x ys (Some (w, ws)) later e =
      let p : ◌≡◌ {A = A × List A} (w, z ∷ ws) (x, ys) = cc in
      let same : w ≡ x = ap (λ (r : A × List A). r.0) p in
      let rest : z ∷ ws ≡ ys = ap (λ (r : A × List A). r.1) p in
      subst (λ l. IsFirst test (z ∷ zs) x l) rest (subst (λ y. IsFirst test (z ∷ zs) y (z ∷ ws)) same (behind_it z zs w ws (later w ws refl)))

  first_by : (z : A) (zs : List A) (x : A) (ys : List A) (b : Bool) → test z ≡ b → ((w : A) (ws : List A) → first_passing test zs ≡ Some (w, ws) → IsFirst test zs w ws)
      → ◌≡◌ {A = Option (A × List A)} (if b then Some (z, zs) else option_map (λ (r : A × List A). (r.0, z ∷ r.1)) (first_passing test zs)) (Some (x, ys)) → IsFirst test (z ∷ zs) x ys
  first_by z zs x ys true is later e =
      let p : ◌≡◌ {A = A × List A} (z, zs) (x, ys) = cc in
      let same : z ≡ x = ap (λ (r : A × List A). r.0) p in
      let rest : zs ≡ ys = ap (λ (r : A × List A). r.1) p in
      subst (λ l. IsFirst test (z ∷ zs) x l) rest (subst (λ y. IsFirst test (z ∷ zs) y zs) same (here z zs is))
  first_by z zs x ys false is later e = first_behind z zs x ys (first_passing test zs) later e

  pub first_is : (xs : List A) (x : A) (ys : List A) → first_passing test xs ≡ Some (x, ys) → IsFirst test xs x ys
  first_is [] x ys e = cc
  first_is (z ∷ zs) x ys e = first_by z zs x ys (test z) refl (first_is zs) e

  none_behind : (z : A) (o : Option (A × List A)) → ◌≡◌ {A = Option (A × List A)} (option_map {U = A × List A} (λ (r : A × List A). (r.0, z ∷ r.1)) o) None → o ≡ None
  none_behind z None e = refl
  none_behind z (Some r) e = cc

  none_by : (z : A) (zs : List A) (b : Bool) → test z ≡ b → ((y : A) → IsOneOf y zs → first_passing test zs ≡ None → test y ≡ false)
      → ◌≡◌ {A = Option (A × List A)} (if b then Some (z, zs) else option_map (λ (r : A × List A). (r.0, z ∷ r.1)) (first_passing test zs)) None → (y : A) → IsOneOf y (z ∷ zs) → test y ≡ false
  none_by z zs true is later e y h = cc
  none_by z zs false is later e y (inl same) = subst (λ w. test w ≡ false) (sym same) is
  none_by z zs false is later e y (inr h) = later y h (none_behind z (first_passing test zs) e)

  -- none passes
  pub first_none : (xs : List A) (y : A) → IsOneOf y xs → first_passing test xs ≡ None → test y ≡ false
  first_none [] y h e = absurd h
  first_none (z ∷ zs) y h e = none_by z zs (test z) refl (first_none zs) e y h

true_not_false : (b : Bool) → b ≡ true → not b ≡ true → ⊥
true_not_false true e f = cc
true_not_false false e f = cc

not_false : (b : Bool) → not b ≡ false → b ≡ true
not_false true e = refl
not_false false e = cc

no_split : {A : Type 0} (before after : List A) (x : A) → [] ≡ before ++ x ∷ after → ⊥
no_split [] after x e = cc
no_split (y ∷ ys) after x e = cc

module _ {A : Type 0} (waits : A → A → Bool) where
  abbrev free : List A → A → Bool
  free xs x = not (list_any (waits x) xs)

  -- what turns leave: xs in an order, and the rest
  pub record AreTurns (n : ℕ) (xs order rest : List A) : Type 0 where
    pub within : (x : A) → IsOneOf x order → IsOneOf x xs
    pub over : (x : A) → IsOneOf x rest → IsOneOf x xs
    pub parted : (x : A) → IsOneOf x xs → IsOneOf x order ⊎ IsOneOf x rest
    pub behind : (before after : List A) (x y : A) → order ≡ before ++ x ∷ after → IsOneOf y xs → waits x y ≡ true → IsOneOf y before
    pub once : Apart xs → (before after : List A) (x : A) → order ≡ before ++ x ∷ after → IsOneOf x before → ⊥
    pub stuck : length xs ≤ n → (x : A) → IsOneOf x rest → (y : A) × IsOneOf y rest × (waits x y ≡ true)
    pub count : length order + length rest ≡ length xs

  no_turn : (n : ℕ) (xs : List A) → (length xs ≤ n → (x : A) → IsOneOf x xs → (y : A) × IsOneOf y xs × (waits x y ≡ true)) → AreTurns n xs [] xs
  no_turn n xs stuck = record {
    within = λ x h. absurd h;
    over = λ x h. h;
    parted = λ x h. inr h;
    behind = λ before after x y e. absurd (no_split before after x e);
    once = λ a before after x e. absurd (no_split before after x e);
    stuck = stuck;
    count = omega arith;
  }

  behind_turn : (n : ℕ) (xs : List A) (x : A) (ys order rest : List A) → IsFirst (free xs) xs x ys → AreTurns n ys order rest
      → (before after : List A) (u y : A) → x ∷ order ≡ before ++ u ∷ after → IsOneOf y xs → waits u y ≡ true → IsOneOf y before
  behind_turn n xs x ys order rest f t [] after u y e h w =
      let same : x ≡ u = cc in
      absurd (true_not_false (list_any (waits x) xs) (one_any (waits x) xs y h (subst (λ z. waits z y ≡ true) (sym same) w)) f.passes)
  behind_turn n xs x ys order rest f t (b ∷ bs) after u y e h w =
      let same : x ≡ b = cc in
      let others : order ≡ bs ++ u ∷ after = cc in
      elim (f.others y h) [
        | inl it ↦ inl (it ∙ same)
        | inr left ↦ inr (t.behind bs after u y others left w)
      ]

  once_turn : (n : ℕ) (xs : List A) (x : A) (ys order rest : List A) → IsFirst (free xs) xs x ys → AreTurns n ys order rest
      → Apart xs → (before after : List A) (u : A) → x ∷ order ≡ before ++ u ∷ after → IsOneOf u before → ⊥
  once_turn n xs x ys order rest f t a [] after u e h = h
  once_turn n xs x ys order rest f t a (b ∷ bs) after u e (inl it) =
      let same : x ≡ b = cc in
      let others : order ≡ bs ++ u ∷ after = cc in
      let inside : IsOneOf u ys = t.within u (subst (λ l. IsOneOf u l) (sym others) (one_here bs after u)) in
      (f.apart a).0 (subst (λ z. IsOneOf z ys) (it ∙ sym same) inside)
  once_turn n xs x ys order rest f t a (b ∷ bs) after u e (inr h) =
      let others : order ≡ bs ++ u ∷ after = cc in
      t.once (f.apart a).1 bs after u others h

  turn : (n : ℕ) (xs : List A) (x : A) (ys order rest : List A) → IsFirst (free xs) xs x ys → AreTurns n ys order rest → AreTurns (suc n) xs (x ∷ order) rest
  turn n xs x ys order rest f t = record {
    within = λ u h. elim h [ inl e ↦ subst (λ z. IsOneOf z xs) (sym e) f.one | inr r ↦ f.left u (t.within u r) ];
    over = λ u h. f.left u (t.over u h);
    parted = λ u h. elim (f.others u h) [ inl e ↦ inl (inl e) | inr l ↦ elim (t.parted u l) [ inl o ↦ inl (inr o) | inr r ↦ inr r ] ];
    behind = behind_turn n xs x ys order rest f t;
    once = once_turn n xs x ys order rest f t;
    stuck = λ le u h. t.stuck (omega (arith, le, f.fewer)) u h;
    count = omega (arith, t.count, f.fewer);
  }

  turns_by : (n : ℕ) (xs : List A) (o : Option (A × List A)) → first_passing (free xs) xs ≡ o → ((ys : List A) → AreTurns n ys (turn_order waits n ys).0 (turn_order waits n ys).1)
      → (let all : List A × List A = elim o [ None ↦ ([], xs) | Some r ↦ (let rest = turn_order waits n r.1 in (r.0 ∷ rest.0, rest.1)) ] in AreTurns (suc n) xs all.0 all.1)
  turns_by n xs None e later = no_turn (suc n) xs (λ le x h. any_one (waits x) xs (not_false (list_any (waits x) xs) (first_none (free xs) xs x h e)))
  turns_by n xs (Some (x, ys)) e later = turn n xs x ys (turn_order waits n ys).0 (turn_order waits n ys).1 (first_is (free xs) xs x ys e) (later ys)

  none_in_none : (xs : List A) → length xs ≤ 0 → (x : A) → IsOneOf x xs → ⊥
  none_in_none [] le x h = h
  none_in_none (y ∷ ys) le x h = absurd (omega (arith, le))

  pub turns_are : (n : ℕ) (xs : List A) → AreTurns n xs (turn_order waits n xs).0 (turn_order waits n xs).1
  turns_are zero xs = no_turn zero xs (λ le x h. absurd (none_in_none xs le x h))
  turns_are (suc n) xs = turns_by n xs (first_passing (free xs) xs) refl (turns_are n)
