-- What a list and another after it join to.
use Rattle.std.specs.Prelude.{◌≡◌, ◌<◌, ◌+◌, ℕ, List, [], ◌∷◌, ◌++◌, length, replicate, take, drop}
use Rattle.std.proofs.Common.{zero, suc, refl, sym, ap, ap₂, ◌∙◌, subst, arith, get_or, take-append-drop}
use Rattle.std.proofs.lemmas.Simd.{splat_is_map}
use Rattle.ws_replica.specs.Joins.{joined_from, IsJoinOf, all_joined}

-- the join of a list with a member, and something for the empty one
abbrev joined_or : {J : Type 0} → (J → J → J) → J → List J → J
joined_or f other [] = other
joined_or f other (first ∷ rest) = joined_from f first rest

pub IsJoinOf-known : {J : Type 0} (f : J → J → J) (first : J) (rest : List J) (joined : J) → joined ≡ joined_from f first rest → IsJoinOf f (first ∷ rest) joined
IsJoinOf-known f first rest joined known a b e = known ∙ ap (joined_or f first) e

pub IsJoinOf-one : {J : Type 0} (f : J → J → J) (all : List J) (only : J) → all ≡ only ∷ [] → IsJoinOf f all only
IsJoinOf-one f all only e a b same = IsJoinOf-known f only [] only refl a b (sym e ∙ same)

module _ {J : Type 0} (f : J → J → J) (associative : (a b c : J) → f (f a b) c ≡ f a (f b c)) where
  joined_from-first : (a b : J) (rest : List J) → joined_from f (f a b) rest ≡ f a (joined_from f b rest)
  joined_from-first a b [] = refl
  joined_from-first a b (c ∷ rest) = ap (λ x. joined_from f x rest) (associative a b c) ∙ joined_from-first a (f b c) rest

  pub joined_from-append : (a : J) (xs : List J) (b : J) (ys : List J) → joined_from f a (xs ++ (b ∷ ys)) ≡ f (joined_from f a xs) (joined_from f b ys)
  joined_from-append a [] b ys = joined_from-first a b ys
  joined_from-append a (x ∷ xs) b ys = joined_from-append (f a x) xs b ys

  -- two lists with members: the join of both is that of their joins
  pub IsJoinOf-append : (xs ys : List J) (x y : J) → 0 < length xs → 0 < length ys → IsJoinOf f xs x → IsJoinOf f ys y → IsJoinOf f (xs ++ ys) (f x y)
  IsJoinOf-append [] ys x y p q front back = elim p [ ]
  IsJoinOf-append (a ∷ xs) [] x y p q front back = elim q [ ]
  IsJoinOf-append (a ∷ xs) (b ∷ ys) x y p q front back =
      IsJoinOf-known f a (xs ++ (b ∷ ys)) (f x y) (ap₂ f (front a xs refl) (back b ys refl) ∙ sym (joined_from-append a xs b ys))

  -- the same of a list cut in two
  pub IsJoinOf-halves : (all front back : List J) (n : ℕ) (x y : J) → front ≡ take n all → back ≡ drop n all → 0 < length front → 0 < length back → IsJoinOf f front x → IsJoinOf f back y → IsJoinOf f all (f x y)
  IsJoinOf-halves all front back n x y first rest some more left right =
      subst (λ (whole : List J). IsJoinOf f whole (f x y)) (ap₂ ◌++◌ first rest ∙ take-append-drop n all) (IsJoinOf-append front back x y some more left right)

-- as many of what a list joins to as it has members
pub settled-replicate : {J : Type 0} (f : J → J → J) (all : List J) (joined : J) → IsJoinOf f all joined → replicate (length all) joined ≡ all_joined f all
settled-replicate f [] joined is = refl
settled-replicate f (first ∷ rest) joined is =
    ap (replicate (length (first ∷ rest))) (is first rest refl) ∙ splat_is_map (first ∷ rest) (length (first ∷ rest)) (joined_from f first rest) refl

-- ---- joined one after another

after_one : {J : Type 0} (f : J → J → J) (others : List J) (i : ℕ) (m all : J) → i < length others → m ≡ get_or others i m → joined_from f (f all m) (drop (suc i) others) ≡ joined_from f all (drop i others)
after_one f [] i m all within is = absurd (omega (arith, within))
after_one f (x ∷ xs) zero m all within is = ap (λ z. joined_from f (f all z) xs) is
after_one f (x ∷ xs) (suc i) m all within is = after_one f xs i m all (omega (arith, within)) is

one_more : (i : ℕ) → i + 1 ≡ suc i
one_more i = omega arith

pub joined_next : {J : Type 0} (f : J → J → J) (others : List J) (i : ℕ) (m all both : J) → i < length others → m ≡ get_or others i m → both ≡ f all m → joined_from f both (drop (i + 1) others) ≡ joined_from f all (drop i others)
joined_next f others i m all both within is e =
    ap (λ z. joined_from f z (drop (i + 1) others)) e ∙ ap (λ n. joined_from f (f all m) (drop n others)) (one_more i) ∙ after_one f others i m all within is
