-- What a set of writes has at a path is what a replica that took it holds there.
use Rattle.std.specs.Prelude.{◌≡◌, ℕ, Bool, true, false, cond, List, [], ◌∷◌, refl, Option, Some, None, is_none}
use Rattle.std.specs.List.{Contains}
use Rattle.std.specs.declared.cmp.Ordering.{Ordering}
use Rattle.std.specs.declared.cmp.Ordering.TheVariants.{Less, Equal, Greater}
use Rattle.std.specs.Ordering.{is_lt, is_gt}
use Rattle.std.specs.Str.{bytes_eq}
use Rattle.std.specs.FinMap.{get}
use Rattle.std.proofs.lemmas.Cmp.{upto, tied_itself}
use Rattle.std.proofs.lemmas.Slice.Eq.{bytes_eq-Decides}
use Rattle.std.proofs.Common.{sym, ap, subst, ◌∙◌, inl, inr, arith}
use Rattle.ws_map.specs.Greater.{joined_option}
use Rattle.ws_map.proofs.Greater.{first_upto, second_upto, one_of_both}
use Rattle.ws_version.specs.Writes.{Held, Write, held_cmp, greater_held}
use Rattle.ws_version.specs.Laws.{held_cmp_total, held_cmp-IsAntisymmetric}
use Rattle.ws_map.specs.Kept.{StandsFor, StandsAt, SameMembers}
use Rattle.ws_map.proofs.Itself.{Contains-cons_cases, Contains-first, Contains-later, stands_at, held_or_above}
use Rattle.ws_register.specs.Edits.{Contents, greatest_at, is_missing}
use Rattle.ws_register.proofs.Laws.{SameMembers-itself}

none_in_empty : {A : Type 0} (a : A) → ¬ (Contains [] a)
none_in_empty a c = absurd (omega (arith, c.1))

-- a write at the path is a member
first_there : (w : Write) (W : List Write) (path : List ℕ) → bytes_eq w.0 path ≡ true → Contains (w ∷ W) (path, w.1)
first_there w W path e = subst (λ z. Contains {X = Write} (w ∷ W) (z, w.1)) ((bytes_eq-Decides w.0 path).0 e) (Contains-first w W)

-- a write elsewhere is none at the path
not_there : (w : Write) (path : List ℕ) (y : Held) → bytes_eq w.0 path ≡ false → ◌≡◌ {A = Write} w (path, y) → ⊥
not_there w path y e here = let t = (bytes_eq-Decides w.0 path).1 (ap (λ (v : Write). v.0) here) in cc

upto_first : (w : Write) (path : List ℕ) (x y : Held) → ◌≡◌ {A = Write} w (path, y) → is_gt (held_cmp w.1 x) ≡ false → is_gt (held_cmp y x) ≡ false
upto_first w path x y here h = subst (λ z. is_gt (held_cmp z x) ≡ false) (ap (λ (v : Write). v.1) here) h

either_there : (w : Write) (W : List Write) (path : List ℕ) (x : Held) (b : Bool) → bytes_eq w.0 path ≡ true → Contains W (path, x) → Contains (w ∷ W) (path, cond b x w.1)
either_there w W path x true e c = Contains-later w W (path, x) c
either_there w W path x false e c = first_there w W path e

-- one write more, at the path or elsewhere
one_more : (w : Write) (W : List Write) (path : List ℕ) (b : Bool) (o : Option Held) → bytes_eq w.0 path ≡ b → StandsAt held_cmp W path o → StandsAt held_cmp (w ∷ W) path (cond b (joined_option greater_held (Some w.1) o) o)
one_more w W path true None e h = record {
  among = first_there w W path e;
  above = λ y c. elim (Contains-cons_cases w W (path, y) c) [
    | inl here ↦ upto_first w path w.1 y here (ap is_gt (tied_itself held_cmp_total w.1))
    | inr later ↦ absurd (h y later)
  ];
}
one_more w W path true (Some x) e h = record {
  among = either_there w W path x (is_lt (held_cmp w.1 x)) e h.among;
  above = λ y c. elim (Contains-cons_cases w W (path, y) c) [
    | inl here ↦ upto_first w path (greater_held w.1 x) y here (first_upto held_cmp_total w.1 x)
    | inr later ↦ upto held_cmp_total y x (greater_held w.1 x) (h.above y later) (second_upto held_cmp_total w.1 x)
  ];
}
one_more w W path false None e h = λ y c. elim (Contains-cons_cases w W (path, y) c) [
  | inl here ↦ absurd (not_there w path y e here)
  | inr later ↦ h y later
]
one_more w W path false (Some x) e h = record {
  among = Contains-later w W (path, x) h.among;
  above = λ y c. elim (Contains-cons_cases w W (path, y) c) [
    | inl here ↦ absurd (not_there w path y e here)
    | inr later ↦ h.above y later
  ];
}

-- it is the greatest, by membership
pub greatest_at-stands : (path : List ℕ) (W : List Write) → StandsAt held_cmp W path (greatest_at path W)
greatest_at-stands path [] = λ y c. none_in_empty {A = Write} (path, y) c
greatest_at-stands path (w ∷ W) = one_more w W path (bytes_eq w.0 path) (greatest_at path W) refl (greatest_at-stands path W)

-- one is the greatest at a path
pub one_at : (V W : List Write) (path : List ℕ) (a b : Option Held) → SameMembers V W → StandsAt held_cmp V path a → StandsAt held_cmp W path b → a ≡ b
one_at V W path None None is g h = refl
one_at V W path None (Some y) is g h = absurd (g y ((is (path, y)).1 h.among))
one_at V W path (Some x) None is g h = absurd (h x ((is (path, x)).0 g.among))
one_at V W path (Some x) (Some y) is g h = ap Some (one_of_both held_cmp_total held_cmp-IsAntisymmetric x y (h.above x ((is (path, x)).0 g.among)) (g.above y ((is (path, y)).1 h.among)))

-- it is what is held where the writes were taken
pub greatest_at-held : (m : Contents) (W : List Write) (path : List ℕ) → StandsFor held_cmp m W → get m path ≡ greatest_at path W
greatest_at-held m W path h = one_at W W path (get m path) (greatest_at path W) (SameMembers-itself W) (stands_at held_cmp m W h path) (greatest_at-stands path W)

-- membership alone matters
pub greatest_at-same : (V W : List Write) (path : List ℕ) → SameMembers V W → greatest_at path V ≡ greatest_at path W
greatest_at-same V W path same = one_at V W path (greatest_at path V) (greatest_at path W) same (greatest_at-stands path V) (greatest_at-stands path W)

below : (r : Ordering) → is_gt r ≡ false → (r ≡ Equal → ⊥) → is_lt r ≡ true
below Less e h = refl
below Equal e h = absurd (h refl)
below Greater e h = cc

same_some : {A : Type 0} (a : Option A) (x y : A) → a ≡ Some x → a ≡ Some y → x ≡ y
same_some a x y e f = let both : Some x ≡ Some y = sym e ∙ f in cc

no_text : (a b : Held) → a ≡ b → a.text ≡ None → is_missing (Some b) ≡ false → ⊥
no_text a b e none some = let is : is_missing (Some b) ≡ true = ap (λ z. is_missing (Some z)) (sym e) ∙ ap is_none none in cc

-- a text that is held where a removal was taken is of a write above it
pub removal_below : (m : Contents) (W : List Write) (w : Write) (h : Held) → StandsFor held_cmp m W → Contains W w → w.1.text ≡ None → get m w.0 ≡ Some h → is_missing (Some h) ≡ false → is_lt (held_cmp w.1 h) ≡ true
removal_below m W w h stands in_W none at some =
    let kept = held_or_above held_cmp m W stands w.0 w.1 in_W in
    let one : kept.0 ≡ h = same_some (get m w.0) kept.0 h kept.1 at in
    let upto : is_gt (held_cmp w.1 h) ≡ false = subst (λ z. is_gt (held_cmp w.1 z) ≡ false) one kept.3 in
    below (held_cmp w.1 h) upto (λ e. no_text w.1 h (held_cmp-IsAntisymmetric w.1 h e) none some)
