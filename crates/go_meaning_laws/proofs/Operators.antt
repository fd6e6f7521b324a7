-- Operators of well typed operands give values of their types, or panic.
use Rattle.std.proofs.Common.{◌≡◌, ℕ, suc, ◌+◌, ◌-◌, ◌%◌, ◌<◌, Bool, true, not, List, [], ◌∷◌, Some, ℤ, pos, negsuc, ◌+ℤ◌, ◌-ℤ◌, inl, inr, refl, sym, ap, ◌∙◌, subst, arith}
use Rattle.std.specs.Int.{int_rem_euclid}
use Rattle.std.proofs.lemmas.Bool.{lt-ltb, cases_lt}
use Rattle.std.proofs.lemmas.Int.{ints}
use Rattle.go_const.specs.Constants.{sizes, fits}
use Rattle.go_const.specs.declared.kind.IntKind.{IntKind}
use Rattle.go_const.specs.declared.kind.IntKind.TheVariants as integers
use Rattle.go_const.specs.declared.operator.UnaryOperator.{UnaryOperator}
use Rattle.go_const.specs.declared.operator.UnaryOperator.TheVariants.{Positive, Negative, Complement, Negation}
use Rattle.go_types.specs.declared.types.Basic.TheVariants as basics
use Rattle.go_types.specs.declared.types.Untyped.TheVariants as kinds
use Rattle.go_types.specs.Types.{Type', basic, array, slice, struct, named}
use Rattle.go_types.specs.Relations.{underlying}
use Rattle.go_code.specs.declared.cell.Cell.{Cell}
use Rattle.go_code.specs.declared.cell.Cell.TheVariants.{Int, Bool as Truth, Text, Slice}
use Rattle.go_code.specs.Operators as operators
use Rattle.go_code.specs.Operators.{Operated, wrapped}
use Rattle.go_meaning.specs.Values.{Value, single, parts}
use Rattle.go_meaning.specs.Choices.{unary_operators, operated}
use Rattle.go_meaning_laws.specs.WellTyped.{is_integer_type, is_string_type, is_bool_type, is_slice, is_text, is_unary}
use Rattle.go_meaning_laws.proofs.Shelf.{Shelf, Lies}
use Rattle.go_meaning_laws.proofs.Values.{Of, of_underlying, by_underlying}
use Rattle.go_meaning_laws.proofs.Parts.{Fine}

-- ---- what values of basic types are

pub data IsNumber (s : Type') (v : Value) : Type 0 where
  number : (i : IntKind) (z : ℤ) → s ≡ basic (basics.Integer i) → v ≡ single (Int z) → fits (Some i) z ≡ true → IsNumber s v

-- a number is one cell
pub number_cell : (s : Type') (v : Value) → IsNumber s v → (c : Cell) × (v ≡ single c)
number_cell s v (number i z es ev f) = (Int z, ev)

pub data IsString (s : Type') (v : Value) : Type 0 where
  text : (bytes : List ℕ) → s ≡ basic basics.String → v ≡ single (Text bytes) → is_text bytes ≡ true → IsString s v

-- a truth value
abbrev pub IsTruth : Value → Type 0
IsTruth v = (b : Bool) × (v ≡ single (Truth b))

-- a slice, which is a part of an array on the shelf
pub data IsSlice (σ : Shelf) (s : Type') (v : Value) : Type 0 where
  piece : (u : Type') (row start n c : ℕ) → s ≡ slice u → v ≡ single (Slice row start n c) → Lies σ u row start n c → IsSlice σ s v

-- ---- integers wrap round

rem_small : (a : ℤ) (n : ℕ) → 0 < n → (m : ℕ) × (int_rem_euclid a (pos n) ≡ pos m) × (m < n)
rem_small (pos a) n l = (a % n, refl, omega (arith, l))
rem_small (negsuc a) n l = (n - 1 - a % n, refl, omega (arith, l))

moved_fits : (kind : IntKind) (s t m : ℕ) → s ≡ (sizes (Some kind)).0 → t ≡ (sizes (Some kind)).1 → m < s + t → fits (Some kind) (pos m -ℤ pos s) ≡ true
moved_fits kind s t m es et l = elim (cases_lt m s) [
  | inl below ↦
      let at : pos m -ℤ pos s ≡ negsuc (s - suc m) = omega (arith, ints, below) in
      ap (fits (Some kind)) at ∙ lt-ltb (s - suc m) (sizes (Some kind)).0 (subst (λ n. s - suc m < n) es (omega (arith, below)))
  | inr above ↦
      let at : pos m -ℤ pos s ≡ pos (m - s) = omega (arith, ints, above) in
      ap (fits (Some kind)) at ∙ lt-ltb (m - s) (sizes (Some kind)).1 (subst (λ n. m - s < n) et (omega (arith, above, l)))
]

some_numbers : (kind : IntKind) → 0 < (sizes (Some kind)).0 + (sizes (Some kind)).1
some_numbers integers.Int = omega arith
some_numbers integers.Int8 = omega arith
some_numbers integers.Int16 = omega arith
some_numbers integers.Int32 = omega arith
some_numbers integers.Int64 = omega arith
some_numbers integers.Uint = omega arith
some_numbers integers.Uint8 = omega arith
some_numbers integers.Uint16 = omega arith
some_numbers integers.Uint32 = omega arith
some_numbers integers.Uint64 = omega arith

pub wrapped_fits : (kind : IntKind) (z : ℤ) → fits (Some kind) (wrapped kind z) ≡ true
wrapped_fits kind z =
    let s : ℕ = (sizes (Some kind)).0 in
    let t : ℕ = (sizes (Some kind)).1 in
    let r = rem_small (z +ℤ pos s) (s + t) (some_numbers kind) in
    ap (λ x. fits (Some kind) (x -ℤ pos s)) r.1 ∙ moved_fits kind s t r.0 refl refl r.2

-- ---- by a shelf

module _ (σ : Shelf) where
  pub integer_value : (s : Type') (v : Value) → is_integer_type s ≡ true → Of σ s v → IsNumber s v
  integer_value (basic (basics.Integer i)) (single (Int z)) e h = number i z refl refl h.0
  integer_value (basic (basics.Integer i)) (single (Truth b)) e h = absurd (cc)
  integer_value (basic (basics.Integer i)) (single (Text t)) e h = absurd (cc)
  integer_value (basic (basics.Integer i)) (single (Slice row start n c)) e h = absurd (cc)
  integer_value (basic (basics.Integer i)) (parts vs) e h = absurd (cc)
  integer_value (basic basics.Bool) v e h = absurd (cc)
  integer_value (basic basics.String) v e h = absurd (cc)
  integer_value (basic (basics.Untyped k)) v e h = absurd (cc)
  integer_value (array n t) v e h = absurd (cc)
  integer_value (slice t) v e h = absurd (cc)
  integer_value (struct fs) v e h = absurd (cc)
  integer_value (named p x t) v e h = absurd (cc)

  pub string_value : (s : Type') (v : Value) → is_string_type s ≡ true → Of σ s v → IsString s v
  string_value (basic basics.String) (single (Text t)) e h = text t refl refl h.1
  string_value (basic basics.String) (single (Int z)) e h = absurd (cc)
  string_value (basic basics.String) (single (Truth b)) e h = absurd (cc)
  string_value (basic basics.String) (single (Slice row start n c)) e h = absurd (cc)
  string_value (basic basics.String) (parts vs) e h = absurd (cc)
  string_value (basic (basics.Integer i)) v e h = absurd (cc)
  string_value (basic basics.Bool) v e h = absurd (cc)
  string_value (basic (basics.Untyped k)) v e h = absurd (cc)
  string_value (array n t) v e h = absurd (cc)
  string_value (slice t) v e h = absurd (cc)
  string_value (struct fs) v e h = absurd (cc)
  string_value (named p x t) v e h = absurd (cc)

  pub bool_value : (s : Type') (v : Value) → is_bool_type s ≡ true → Of σ s v → IsTruth v
  bool_value (basic basics.Bool) (single (Truth b)) e h = (b, refl)
  bool_value (basic basics.Bool) (single (Int z)) e h = absurd (cc)
  bool_value (basic basics.Bool) (single (Text t)) e h = absurd (cc)
  bool_value (basic basics.Bool) (single (Slice row start n c)) e h = absurd (cc)
  bool_value (basic basics.Bool) (parts vs) e h = absurd (cc)
  bool_value (basic (basics.Untyped kinds.Bool)) (single (Truth b)) e h = (b, refl)
  bool_value (basic (basics.Untyped kinds.Bool)) (single (Int z)) e h = absurd (cc)
  bool_value (basic (basics.Untyped kinds.Bool)) (single (Text t)) e h = absurd (cc)
  bool_value (basic (basics.Untyped kinds.Bool)) (single (Slice row start n c)) e h = absurd (cc)
  bool_value (basic (basics.Untyped kinds.Bool)) (parts vs) e h = absurd (cc)
  bool_value (basic (basics.Untyped kinds.Int)) v e h = absurd (cc)
  bool_value (basic (basics.Untyped kinds.Rune)) v e h = absurd (cc)
  bool_value (basic (basics.Untyped kinds.String)) v e h = absurd (cc)
  bool_value (basic basics.String) v e h = absurd (cc)
  bool_value (basic (basics.Integer i)) v e h = absurd (cc)
  bool_value (array n t) v e h = absurd (cc)
  bool_value (slice t) v e h = absurd (cc)
  bool_value (struct fs) v e h = absurd (cc)
  bool_value (named p x t) v e h = absurd (cc)

  pub slice_value : (s : Type') (v : Value) → is_slice s ≡ true → Of σ s v → IsSlice σ s v
  slice_value (slice t) (single (Slice row start n c)) e h = piece t row start n c refl refl h.2
  slice_value (slice t) (single (Int z)) e h = absurd (cc)
  slice_value (slice t) (single (Truth b)) e h = absurd (cc)
  slice_value (slice t) (single (Text s)) e h = absurd (cc)
  slice_value (slice t) (parts vs) e h = absurd (cc)
  slice_value (basic b) v e h = absurd (cc)
  slice_value (array n t) v e h = absurd (cc)
  slice_value (struct fs) v e h = absurd (cc)
  slice_value (named p x t) v e h = absurd (cc)

  -- of a type of truth values any is one
  pub truth_is : (s : Type') (b : Bool) → is_bool_type s ≡ true → Of σ s (single (Truth b))
  truth_is (basic basics.Bool) b e = (refl, refl, tt)
  truth_is (basic (basics.Untyped kinds.Bool)) b e = (refl, refl, tt)
  truth_is (basic (basics.Untyped kinds.Int)) b e = absurd (cc)
  truth_is (basic (basics.Untyped kinds.Rune)) b e = absurd (cc)
  truth_is (basic (basics.Untyped kinds.String)) b e = absurd (cc)
  truth_is (basic basics.String) b e = absurd (cc)
  truth_is (basic (basics.Integer i)) b e = absurd (cc)
  truth_is (array n t) b e = absurd (cc)
  truth_is (slice t) b e = absurd (cc)
  truth_is (struct fs) b e = absurd (cc)
  truth_is (named p x t) b e = absurd (cc)

  wrapped_is : (kind : IntKind) (z : ℤ) → Of σ (basic (basics.Integer kind)) (single (Int (wrapped kind z)))
  wrapped_is kind z = (wrapped_fits kind z, refl, tt)

  -- ---- one operand

  negates : (i : IntKind) (z : ℤ) (op : UnaryOperator) → is_unary op (basic (basics.Integer i)) ≡ true → fits (Some i) z ≡ true → Fine (Of σ (basic (basics.Integer i))) (operated (unary_operators (basic (basics.Integer i)) op) (single (Int z) ∷ []))
  negates i z Positive e f = (f, refl, tt)
  negates i z Negative e f = wrapped_is i _
  negates i z Complement e f = wrapped_is i _
  negates i z Negation e f = absurd (cc)

  number_negated : (s : Type') (v : Value) (op : UnaryOperator) → is_unary op s ≡ true → IsNumber s v → Fine (Of σ s) (operated (unary_operators s op) (v ∷ []))
  number_negated s v op e (number i z es ev f) =
      subst (λ t. Fine (Of σ t) (operated (unary_operators t op) (v ∷ []))) (sym es)
      (subst (λ u. Fine (Of σ (basic (basics.Integer i))) (operated (unary_operators (basic (basics.Integer i)) op) (u ∷ []))) (sym ev)
      (negates i z op (subst (λ t. is_unary op t ≡ true) es e) f))

  unary_at : (s : Type') (v : Value) (op : UnaryOperator) → is_unary op s ≡ true → Of σ s v → Fine (Of σ s) (operated (unary_operators s op) (v ∷ []))
  unary_at s v Negation e h =
      let b = bool_value s v e h in
      subst (λ u. Fine (Of σ s) (operated (unary_operators s Negation) (u ∷ []))) (sym b.1) (truth_is s (not b.0) e)
  unary_at s v Positive e h = number_negated s v Positive e (integer_value s v e h)
  unary_at s v Negative e h = number_negated s v Negative e (integer_value s v e h)
  unary_at s v Complement e h = number_negated s v Complement e (integer_value s v e h)

  -- what is fine at the underlying type is so at the type
  pub fine_under : (t : Type') (o : Operated Value) → Fine (Of σ (underlying t)) o → Fine (Of σ t) o
  fine_under t (operators.Gives v) h = by_underlying σ t v h
  fine_under t (operators.Panics kind) h = tt
  fine_under t operators.Senseless h = absurd h

  pub unary_is : (t : Type') (v : Value) (op : UnaryOperator) → is_unary op (underlying t) ≡ true → Of σ t v → Fine (Of σ t) (operated (unary_operators (underlying t) op) (v ∷ []))
  unary_is t v op e h = fine_under t _ (unary_at (underlying t) v op e (of_underlying σ t v h))
