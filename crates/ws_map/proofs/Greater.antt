-- The greater of two is a semilattice wherever only equal values tie.
use Rattle.std.specs.Prelude.{◌≡◌, Bool, true, false, cond, Option, Some, None, refl}
use Rattle.std.specs.declared.cmp.Ordering.{Ordering}
use Rattle.std.specs.declared.cmp.Ordering.TheVariants.{Less, Equal, Greater}
use Rattle.std.specs.Ordering.{is_lt, is_gt, ordering_reverse}
use Rattle.std.specs.Cmp.{IsTotalOrder}
use Rattle.std.specs.FinMap.{IsAntisymmetric}
use Rattle.std.proofs.lemmas.Cmp.{upto}
use Rattle.std.proofs.Common.{sym, ap, ◌∙◌}
use Rattle.ws_map.specs.Greater.{greater, joined_option, IsSemilattice}

turned_is_lt : (r : Ordering) → is_lt (ordering_reverse r) ≡ is_gt r
turned_is_lt Less = refl
turned_is_lt Equal = refl
turned_is_lt Greater = refl

not_both : (r : Ordering) → is_lt r ≡ true → is_gt r ≡ false
not_both Less e = refl
not_both Equal e = refl
not_both Greater e = cc

pub neither : (r : Ordering) → is_lt r ≡ false → is_gt r ≡ false → r ≡ Equal
neither Less e f = cc
neither Equal e f = refl
neither Greater e f = cc

less : (r : Ordering) → is_lt r ≡ true → r ≡ Less
less Less e = refl
less Equal e = cc
less Greater e = cc

turned_cond : {X : Type 0} (r : Ordering) (x y : X) → (r ≡ Equal → x ≡ y) → cond (is_lt r) y x ≡ cond (is_gt r) x y
turned_cond Less x y h = refl
turned_cond Equal x y h = h refl
turned_cond Greater x y h = refl

either_same : {X : Type 0} (b : Bool) (x : X) → cond b x x ≡ x
either_same true x = refl
either_same false x = refl

regrouped : {X : Type 0} (x y z : X) (a b c : Bool) → (a ≡ true → b ≡ true → c ≡ true) → (a ≡ false → b ≡ false → c ≡ false) → cond a (cond b z y) (cond c z x) ≡ cond b (cond c z x) (cond a y x)
regrouped x y z true true c h k = ap (λ d. cond d z x) (sym (h refl refl))
regrouped x y z true false c h k = refl
regrouped x y z false true c h k = refl
regrouped x y z false false c h k = ap (λ d. cond d z x) (k refl refl)

under_left : {X : Type 0} (f : X → X → X) (a : Bool) (x y z : X) → f (cond a y x) z ≡ cond a (f y z) (f x z)
under_left f true x y z = refl
under_left f false x y z = refl

under_right : {X : Type 0} (f : X → X → X) (a : Bool) (x y z : X) → f x (cond a z y) ≡ cond a (f x z) (f x y)
under_right f true x y z = refl
under_right f false x y z = refl

module _ {X : Type 0} {R : X → X → Ordering} (o : IsTotalOrder R) where
  pub lt-gt : (x y : X) → is_lt (R x y) ≡ is_gt (R y x)
  lt-gt x y = ap is_lt (o.antisymm x y) ∙ turned_is_lt (R y x)

  upto_itself : (x : X) → is_gt (R x x) ≡ false
  upto_itself x = elim (R x x) as (λ r. is_lt r ≡ is_gt r → is_gt r ≡ false) [ Less ↦ λ _. refl | Equal ↦ λ _. refl | Greater ↦ λ e. sym e ] (lt-gt x x)

  pub first_upto : (x y : X) → is_gt (R x (greater R x y)) ≡ false
  first_upto x y = elim (is_lt (R x y)) as (λ b. is_lt (R x y) ≡ b → is_gt (R x (cond b y x)) ≡ false) [ true ↦ λ e. not_both (R x y) e | false ↦ λ e. upto_itself x ] refl

  pub second_upto : (x y : X) → is_gt (R y (greater R x y)) ≡ false
  second_upto x y = elim (is_lt (R x y)) as (λ b. is_lt (R x y) ≡ b → is_gt (R y (cond b y x)) ≡ false) [ true ↦ λ e. upto_itself y | false ↦ λ e. sym (lt-gt x y) ∙ e ] refl

  lt_trans : (x y z : X) → is_lt (R x y) ≡ true → is_lt (R y z) ≡ true → is_lt (R x z) ≡ true
  lt_trans x y z p q = ap is_lt (o.trans x y z (less _ p) (less _ q))

  not_lt_trans : (x y z : X) → is_lt (R x y) ≡ false → is_lt (R y z) ≡ false → is_lt (R x z) ≡ false
  not_lt_trans x y z p q = lt-gt x z ∙ upto o z y x (sym (lt-gt y z) ∙ q) (sym (lt-gt x y) ∙ p)

  pub greater-associative : (x y z : X) → greater R (greater R x y) z ≡ greater R x (greater R y z)
  greater-associative x y z =
      under_left (greater R) (is_lt (R x y)) x y z
      ∙ regrouped x y z (is_lt (R x y)) (is_lt (R y z)) (is_lt (R x z)) (lt_trans x y z) (not_lt_trans x y z)
      ∙ sym (under_right (greater R) (is_lt (R y z)) x y z)

  pub greater-commutative : IsAntisymmetric R → (x y : X) → greater R x y ≡ greater R y x
  greater-commutative same x y = turned_cond (R x y) x y (same x y) ∙ ap (λ b. cond b x y) (sym (lt-gt y x))

  -- two that are each at most the other are one
  pub one_of_both : IsAntisymmetric R → (x y : X) → is_gt (R x y) ≡ false → is_gt (R y x) ≡ false → x ≡ y
  one_of_both same x y p q = same x y (neither (R x y) (lt-gt x y ∙ q) p)

  pub greater-semilattice : IsAntisymmetric R → IsSemilattice (greater R)
  greater-semilattice same = record { commutative = greater-commutative same; associative = greater-associative; idempotent = λ x. either_same (is_lt (R x x)) x }

module _ {X : Type 0} {f : X → X → X} (s : IsSemilattice f) where
  pub joined_option-commutative : (a b : Option X) → joined_option f a b ≡ joined_option f b a
  joined_option-commutative None None = refl
  joined_option-commutative None (Some y) = refl
  joined_option-commutative (Some x) None = refl
  joined_option-commutative (Some x) (Some y) = ap Some (s.commutative x y)

  pub joined_option-associative : (a b c : Option X) → joined_option f (joined_option f a b) c ≡ joined_option f a (joined_option f b c)
  joined_option-associative None b c = refl
  joined_option-associative (Some x) None c = refl
  joined_option-associative (Some x) (Some y) None = refl
  joined_option-associative (Some x) (Some y) (Some z) = ap Some (s.associative x y z)

  pub joined_option-idempotent : (a : Option X) → joined_option f a a ≡ a
  joined_option-idempotent None = refl
  joined_option-idempotent (Some x) = ap Some (s.idempotent x)
