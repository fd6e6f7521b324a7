-- Sound types: those that are identical are equal, and none is larger than types may be.
use Rattle.std.proofs.Common.{◌≡◌, ℕ, true, ◌&&◌, ◌||◌, cond, List, Option, Some, None, codes, bytes_eq, refl, ap, sym, ◌∙◌, subst, true≢false, ◌⊎◌, inl, inr}
use Rattle.std.specs.Prelude.{◌==◌, nat_le}
use Rattle.std.specs.Option.{option_eq}
use Rattle.std.proofs.lemmas.Bool.{and_parts, and_from, or_cases, or_left}
use Rattle.std.proofs.lemmas.Bool.Decides.{Decides-eqb}
use Rattle.std.proofs.lemmas.Slice.Eq.{bytes_eq-Decides}
use Rattle.go_const.specs.declared.kind.IntKind.TheVariants as integers
use Rattle.go_types.specs.declared.types.Basic.{Basic}
use Rattle.go_types.specs.declared.types.Basic.TheVariants as basics
use Rattle.go_types.specs.declared.types.Untyped.{Untyped}
use Rattle.go_types.specs.declared.types.Untyped.TheVariants as kinds
use Rattle.go_types.specs.Types.{Type', basic, array, slice, struct, named, Fields, no_fields, field}
use Rattle.go_types.specs.Texts.{basic_text}
use Rattle.go_types.specs.Relations.{underlying, identical, all_identical, is_literal, kind_fits, assignable, are_integers, convertible}
use Rattle.go_types.specs.Sizes.{cells}
use Rattle.go_meaning.specs.Meaning.{most_cells}
use Rattle.go_meaning_laws.specs.WellTyped.{IsWhole, AreWhole, is_typed, is_bool_type, is_integer_type}
use Rattle.go_package_laws.proofs.Soundness.{Table, IsSoundType, AreSoundFields}

-- the basic type of a name
abbrev basic_named : List ℕ → Option Basic
basic_named text =
    cond (bytes_eq text (codes "bool")) (Some basics.Bool) (
    cond (bytes_eq text (codes "string")) (Some basics.String) (
    cond (bytes_eq text (codes "int")) (Some (basics.Integer integers.Int)) (
    cond (bytes_eq text (codes "int8")) (Some (basics.Integer integers.Int8)) (
    cond (bytes_eq text (codes "int16")) (Some (basics.Integer integers.Int16)) (
    cond (bytes_eq text (codes "int32")) (Some (basics.Integer integers.Int32)) (
    cond (bytes_eq text (codes "int64")) (Some (basics.Integer integers.Int64)) (
    cond (bytes_eq text (codes "uint")) (Some (basics.Integer integers.Uint)) (
    cond (bytes_eq text (codes "uint8")) (Some (basics.Integer integers.Uint8)) (
    cond (bytes_eq text (codes "uint16")) (Some (basics.Integer integers.Uint16)) (
    cond (bytes_eq text (codes "uint32")) (Some (basics.Integer integers.Uint32)) (
    cond (bytes_eq text (codes "uint64")) (Some (basics.Integer integers.Uint64)) (
    cond (bytes_eq text (codes "untyped bool")) (Some (basics.Untyped kinds.Bool)) (
    cond (bytes_eq text (codes "untyped int")) (Some (basics.Untyped kinds.Int)) (
    cond (bytes_eq text (codes "untyped rune")) (Some (basics.Untyped kinds.Rune)) (
    cond (bytes_eq text (codes "untyped string")) (Some (basics.Untyped kinds.String)) (None))))))))))))))))

basic_is : (b : Basic) → basic_named (basic_text b) ≡ Some b
basic_is basics.Bool = refl
basic_is basics.String = refl
basic_is (basics.Integer integers.Int) = refl
basic_is (basics.Integer integers.Int8) = refl
basic_is (basics.Integer integers.Int16) = refl
basic_is (basics.Integer integers.Int32) = refl
basic_is (basics.Integer integers.Int64) = refl
basic_is (basics.Integer integers.Uint) = refl
basic_is (basics.Integer integers.Uint8) = refl
basic_is (basics.Integer integers.Uint16) = refl
basic_is (basics.Integer integers.Uint32) = refl
basic_is (basics.Integer integers.Uint64) = refl
basic_is (basics.Untyped kinds.Bool) = refl
basic_is (basics.Untyped kinds.Int) = refl
basic_is (basics.Untyped kinds.Rune) = refl
basic_is (basics.Untyped kinds.String) = refl

same_text : (p q : List ℕ) → bytes_eq p q ≡ true → p ≡ q
same_text p q h = (bytes_eq-Decides p q).0 h

pub same_basic : (b c : Basic) → bytes_eq (basic_text b) (basic_text c) ≡ true → b ≡ c
same_basic b c h = let same : Some b ≡ Some c = sym (basic_is b) ∙ ap basic_named (same_text (basic_text b) (basic_text c) h) ∙ basic_is c in cc

same_owner : (p q : Option (List ℕ)) → option_eq bytes_eq p q ≡ true → p ≡ q
same_owner None None h = refl
same_owner None (Some q) h = absurd (true≢false (sym h))
same_owner (Some p) None h = absurd (true≢false (sym h))
same_owner (Some p) (Some q) h = ap Some (same_text p q h)

-- ---- identical types

same_field : {p q : Option (List ℕ)} {x y : List ℕ} {a b : Type'} {f g : Fields} → p ≡ q → x ≡ y → a ≡ b → f ≡ g → field p x a f ≡ field q y b g
same_field h i j k = cc

same_named : {p q x y : List ℕ} {a b : Type'} → p ≡ q → x ≡ y → a ≡ b → named p x a ≡ named q y b
same_named h i j = cc

same_array : {m n : ℕ} {a b : Type'} → m ≡ n → a ≡ b → array m a ≡ array n b
same_array h i = cc

declared_once : (w : Table) (p q x y : List ℕ) (a b : Type') → w.types p x ≡ Some a → w.types q y ≡ Some b → p ≡ q → x ≡ y → a ≡ b
declared_once w p q x y a b h k i j = (
    let one : w.types q y ≡ w.types p x = ap (λ r. w.types r y) (sym i) ∙ ap (w.types p) (sym j) in
    let same : Some a ≡ Some b = sym h ∙ sym one ∙ k in
    cc
    )

mutual
  pub identical_same : (w : Table) (t u : Type') → IsSoundType w t → IsSoundType w u → identical t u ≡ true → t ≡ u
  identical_same w (basic b) (basic c) h k e = ap basic (same_basic b c e)
  identical_same w (array m a) (array n b) h k e =
      let both = and_parts (m == n) (identical a b) e in
      same_array ((Decides-eqb m n).0 both.0) (identical_same w a b h.2 k.2 both.1)
  identical_same w (slice a) (slice b) h k e = ap slice (identical_same w a b h k e)
  identical_same w (struct f) (struct g) h k e = ap struct (all_same w f g h.1 k.1 e)
  identical_same w (named p x a) (named q y b) h k e =
      let both = and_parts (bytes_eq p q) (bytes_eq x y) e in
      let path = same_text p q both.0 in
      let name = same_text x y both.1 in
      same_named path name (declared_once w p q x y a b h.0 k.0 path name)
  identical_same w t u h k e = absurd (true≢false (sym e))

  all_same : (w : Table) (f g : Fields) → AreSoundFields w f → AreSoundFields w g → all_identical f g ≡ true → f ≡ g
  all_same w no_fields no_fields h k e = refl
  all_same w (field p x a f) (field q y b g) h k e =
      let one = and_parts (option_eq bytes_eq p q && bytes_eq x y && identical a b) (all_identical f g) e in
      let two = and_parts (option_eq bytes_eq p q && bytes_eq x y) (identical a b) one.0 in
      let three = and_parts (option_eq bytes_eq p q) (bytes_eq x y) two.0 in
      same_field (same_owner p q three.0) (same_text x y three.1) (identical_same w a b h.0 k.0 two.1) (all_same w f g h.1 k.1 one.1)
  all_same w f g h k e = absurd (true≢false (sym e))

-- ---- what sound types are

mutual
  pub whole_type : (w : Table) (t : Type') → IsSoundType w t → IsWhole t
  whole_type w (basic b) h = h
  whole_type w (array n t) h = whole_type w t h.2
  whole_type w (slice t) h = whole_type w t h
  whole_type w (struct fs) h = whole_fields w fs h.1
  whole_type w (named p x t) h = whole_type w t h.1

  whole_fields : (w : Table) (fs : Fields) → AreSoundFields w fs → AreWhole fs
  whole_fields w no_fields h = tt
  whole_fields w (field p x t fs) h = (whole_type w t h.0, whole_fields w fs h.1)

one_cell : nat_le 1 most_cells ≡ true
unfolding most_cells
one_cell = refl

pub small_type : (w : Table) (t : Type') → IsSoundType w t → nat_le (cells t) most_cells ≡ true
small_type w (basic b) h = one_cell
small_type w (array n t) h = h.1
small_type w (slice t) h = one_cell
small_type w (struct fs) h = h.0
small_type w (named p x t) h = small_type w t h.1

pub sound_underlying : (w : Table) (t : Type') → IsSoundType w t → IsSoundType w (underlying t)
sound_underlying w (basic b) h = h
sound_underlying w (array n t) h = h
sound_underlying w (slice t) h = h
sound_underlying w (struct fs) h = h
sound_underlying w (named p x t) h = sound_underlying w t h.1

-- types of values that aren't constant
abbrev pub untyped_bool : Type'
untyped_bool = basic (basics.Untyped kinds.Bool)

typed_untyped : (b : Basic) (k : Untyped) → is_typed b ≡ true → b ≡ basics.Untyped k → ⊥
typed_untyped b k h e = true≢false (sym h ∙ ap is_typed e)

pub no_untyped : (w : Table) (t : Type') (k : Untyped) → IsSoundType w t → t ≡ basic (basics.Untyped k) → ⊥
no_untyped w t k h e = true≢false (sym (subst (IsSoundType w) e h))

-- no sound type is identical to one of a kind without type
pub not_identical : (w : Table) (t : Type') (k : Untyped) → IsSoundType w t → identical t (basic (basics.Untyped k)) ≡ true → ⊥
not_identical w (basic b) k h e = typed_untyped b k h (same_basic b (basics.Untyped k) e)
not_identical w (array n t) k h e = true≢false (sym e)
not_identical w (slice t) k h e = true≢false (sym e)
not_identical w (struct fs) k h e = true≢false (sym e)
not_identical w (named p x t) k h e = true≢false (sym e)

no_literal_untyped : (w : Table) (t : Type') (k : Untyped) → IsSoundType w t → identical (underlying t) (basic (basics.Untyped k)) ≡ true → ⊥
no_literal_untyped w t k h e = not_identical w (underlying t) k (sound_underlying w t h) e

-- a value of a sound type fits no type by its kind
no_fit : (w : Table) (t u : Type') → IsSoundType w t → kind_fits t u ≡ true → ⊥
no_fit w (basic basics.Bool) u h e = true≢false (sym e)
no_fit w (basic basics.String) u h e = true≢false (sym e)
no_fit w (basic (basics.Integer i)) u h e = true≢false (sym e)
no_fit w (basic (basics.Untyped k)) u h e = true≢false (sym h)
no_fit w (array n t) u h e = true≢false (sym e)
no_fit w (slice t) u h e = true≢false (sym e)
no_fit w (struct fs) u h e = true≢false (sym e)
no_fit w (named p x t) u h e = true≢false (sym e)

same_underlying : (w : Table) (t u : Type') → IsSoundType w t → IsSoundType w u → identical (underlying t) (underlying u) ≡ true → underlying t ≡ underlying u
same_underlying w t u h k e = identical_same w (underlying t) (underlying u) (sound_underlying w t h) (sound_underlying w u k) e

-- a value of a sound type that may be assigned to another has its underlying type
pub assignable_suits : (w : Table) (t u : Type') → IsSoundType w t → IsSoundType w u → assignable t u ≡ true → underlying t ≡ underlying u
assignable_suits w t u h k e = elim (or_cases (identical t u || (is_literal t || is_literal u) && identical (underlying t) (underlying u)) (kind_fits t (underlying u)) e) [
  | inr fit ↦ absurd (no_fit w t (underlying u) h fit)
  | inl rest ↦ elim (or_cases (identical t u) ((is_literal t || is_literal u) && identical (underlying t) (underlying u)) rest) [
    | inl same ↦ ap underlying (identical_same w t u h k same)
    | inr both ↦ same_underlying w t u h k (and_parts (is_literal t || is_literal u) (identical (underlying t) (underlying u)) both).1
  ]
]

-- it may not be assigned to a type that has none
pub not_assignable : (w : Table) (t : Type') (k : Untyped) → IsSoundType w t → assignable t (basic (basics.Untyped k)) ≡ true → ⊥
not_assignable w t k h e = elim (or_cases (identical t (basic (basics.Untyped k)) || (is_literal t || is_literal (basic (basics.Untyped k))) && identical (underlying t) (basic (basics.Untyped k))) (kind_fits t (basic (basics.Untyped k))) e) [
  | inr fit ↦ no_fit w t (basic (basics.Untyped k)) h fit
  | inl rest ↦ elim (or_cases (identical t (basic (basics.Untyped k))) ((is_literal t || is_literal (basic (basics.Untyped k))) && identical (underlying t) (basic (basics.Untyped k))) rest) [
    | inl same ↦ not_identical w t k h same
    | inr both ↦ no_literal_untyped w t k h (and_parts (is_literal t || is_literal (basic (basics.Untyped k))) (identical (underlying t) (basic (basics.Untyped k))) both).1
  ]
]

-- what converts has the same underlying type, or both are integer types
pub convertible_same : (w : Table) (t u : Type') → IsSoundType w t → IsSoundType w u → convertible t u ≡ true →
    (underlying t ≡ underlying u) ⊎ (are_integers (underlying t) (underlying u) ≡ true)
convertible_same w t u h k e = elim (or_cases (identical (underlying t) (underlying u) || are_integers (underlying t) (underlying u)) (kind_fits t (underlying u)) e) [
  | inr fit ↦ absurd (no_fit w t (underlying u) h fit)
  | inl rest ↦ elim (or_cases (identical (underlying t) (underlying u)) (are_integers (underlying t) (underlying u)) rest) [
    | inl same ↦ inl (same_underlying w t u h k same)
    | inr integers ↦ inr integers
  ]
]

pub both_integers : (t u : Type') → are_integers t u ≡ true → (is_integer_type t ≡ true) × (is_integer_type u ≡ true)
both_integers (basic (basics.Integer i)) (basic (basics.Integer j)) e = (refl, refl)
both_integers t u e = absurd (true≢false (sym e))

-- ---- kinds

pub not_identical_to : (w : Table) (t : Type') (k : Untyped) → IsSoundType w t → identical (basic (basics.Untyped k)) t ≡ true → ⊥
not_identical_to w (basic b) k h e = typed_untyped b k h (sym (same_basic (basics.Untyped k) b e))
not_identical_to w (array n t) k h e = true≢false (sym e)
not_identical_to w (slice t) k h e = true≢false (sym e)
not_identical_to w (struct fs) k h e = true≢false (sym e)
not_identical_to w (named p x t) k h e = true≢false (sym e)

-- a value without type that may be assigned to a sound type has a kind that fits it
pub untyped_fits : (w : Table) (k : Untyped) (t : Type') → IsSoundType w t → assignable (basic (basics.Untyped k)) t ≡ true → kind_fits (basic (basics.Untyped k)) (underlying t) ≡ true
untyped_fits w k t h e =
    let v = basic (basics.Untyped k) in
    elim (or_cases (identical v t || (is_literal v || is_literal t) && identical v (underlying t)) (kind_fits v (underlying t)) e) [
      | inr fit ↦ fit
      | inl rest ↦ elim (or_cases (identical v t) ((is_literal v || is_literal t) && identical v (underlying t)) rest) [
        | inl same ↦ absurd (not_identical_to w t k h same)
        | inr both ↦ absurd (not_identical_to w (underlying t) k (sound_underlying w t h) (and_parts (is_literal v || is_literal t) (identical v (underlying t)) both).1)
      ]
    ]

pub untyped_converts : (w : Table) (k : Untyped) (t : Type') → IsSoundType w t → convertible (basic (basics.Untyped k)) t ≡ true → kind_fits (basic (basics.Untyped k)) (underlying t) ≡ true
untyped_converts w k t h e =
    let v = basic (basics.Untyped k) in
    elim (or_cases (identical v (underlying t) || are_integers v (underlying t)) (kind_fits v (underlying t)) e) [
      | inr fit ↦ fit
      | inl rest ↦ elim (or_cases (identical v (underlying t)) (are_integers v (underlying t)) rest) [
        | inl same ↦ absurd (not_identical_to w (underlying t) k (sound_underlying w t h) same)
        | inr integers ↦ absurd (true≢false (sym integers))
      ]
    ]

truth_below : (u : Type') → kind_fits untyped_bool u ≡ true → is_bool_type u ≡ true
truth_below (basic basics.Bool) f = refl
truth_below u f = absurd (true≢false (sym f))

pub fits_truth : (t : Type') → kind_fits untyped_bool (underlying t) ≡ true → is_bool_type (underlying t) ≡ true
fits_truth t f = truth_below (underlying t) f

-- ---- each type is identical to itself

text_itself : (p : List ℕ) → bytes_eq p p ≡ true
text_itself p = (bytes_eq-Decides p p).1 refl

owner_itself : (p : Option (List ℕ)) → option_eq bytes_eq p p ≡ true
owner_itself None = refl
owner_itself (Some p) = text_itself p

mutual
  pub identical_itself : (t : Type') → identical t t ≡ true
  identical_itself (basic b) = text_itself (basic_text b)
  identical_itself (array n t) = and_from (n == n) (identical t t) ((Decides-eqb n n).1 refl) (identical_itself t)
  identical_itself (slice t) = identical_itself t
  identical_itself (struct fs) = all_itself fs
  identical_itself (named p x t) = and_from (bytes_eq p p) (bytes_eq x x) (text_itself p) (text_itself x)

  all_itself : (fs : Fields) → all_identical fs fs ≡ true
  all_itself no_fields = refl
  all_itself (field p x t fs) =
      and_from (option_eq bytes_eq p p && bytes_eq x x && identical t t) (all_identical fs fs)
      (and_from (option_eq bytes_eq p p && bytes_eq x x) (identical t t) (and_from (option_eq bytes_eq p p) (bytes_eq x x) (owner_itself p) (text_itself x)) (identical_itself t))
      (all_itself fs)

pub assignable_itself : (t : Type') → assignable t t ≡ true
assignable_itself t =
    or_left (identical t t || (is_literal t || is_literal t) && identical (underlying t) (underlying t)) (kind_fits t (underlying t))
    (or_left (identical t t) ((is_literal t || is_literal t) && identical (underlying t) (underlying t)) (identical_itself t))
