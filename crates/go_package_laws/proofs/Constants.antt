-- Constants are of their types: what operators give of such, and what they become as values of another type.
use Rattle.std.proofs.Common.{◌≡◌, ℕ, ℤ, pos, not, Bool, true, false, ◌&&◌, ◌||◌, List, ◌++◌, length, Option, Some, None, Result, Ok, Err, refl, ap, sym, ◌∙◌, subst, arith, true≢false, ◌⊎◌, inl, inr}
use Rattle.std.specs.Prelude.{nat_le, nat_lt, unsigned_abs, neg_ℤ}
use Rattle.std.specs.List.{list_all}
use Rattle.std.specs.Ordering.{int_eq}
use Rattle.std.proofs.lemmas.Bool.{and_parts, and_from, cases_Bool, leb-true, lt-ltb}
use Rattle.std.proofs.lemmas.List.Folds.{list_all-append}
use Rattle.go_const.specs.declared.constant.Const.{Const}
use Rattle.go_const.specs.declared.constant.Const.TheVariants.{Integer, Text, Bool as Truth}
use Rattle.go_const.specs.declared.error.ConstError.{ConstError}
use Rattle.go_const.specs.declared.kind.IntKind.{IntKind}
use Rattle.go_const.specs.declared.kind.IntKind.TheVariants as integers
use Rattle.go_const.specs.declared.operator.UnaryOperator.{UnaryOperator}
use Rattle.go_const.specs.declared.operator.UnaryOperator.TheVariants.{Positive, Negative, Complement, Negation}
use Rattle.go_const.specs.declared.operator.ArithmeticOperator.{ArithmeticOperator}
use Rattle.go_const.specs.declared.operator.ArithmeticOperator.TheVariants.{Add}
use Rattle.go_const.specs.declared.operator.ComparisonOperator.TheVariants.{Equal, NotEqual}
use Rattle.go_const.specs.declared.operator.BinaryOperator.{BinaryOperator}
use Rattle.go_const.specs.declared.operator.BinaryOperator.TheVariants.{Arithmetic, Comparison, LogicalAnd, LogicalOr}
use Rattle.go_const.specs.declared.operator.ShiftOperator.{ShiftOperator}
use Rattle.go_const.specs.declared.operator.ShiftOperator.TheVariants.{Left, Right}
use Rattle.go_const.specs.Constants.{represent, represent_text, fits, unary, arithmetic, divides, binary, shifted, shift}
use Rattle.go_types.specs.declared.types.Basic.{Basic}
use Rattle.go_types.specs.declared.types.Basic.TheVariants as basics
use Rattle.go_types.specs.declared.types.Untyped.{Untyped}
use Rattle.go_types.specs.declared.types.Untyped.TheVariants as kinds
use Rattle.go_types.specs.Types.{Type', basic, array, slice, struct, named}
use Rattle.go_types.specs.Relations as relations
use Rattle.go_types.specs.Relations.{underlying, are_integers}
use Rattle.go_meaning.specs.Values.{single, is_of, is_basic}
use Rattle.go_meaning.specs.Choices.{cell_of}
use Rattle.go_meaning_laws.specs.WellTyped.{is_typed, is_text, is_sound_cell, IsConstant}
use Rattle.go_expr.specs.Rules.{int_kind, in_kind, result_type}
use Rattle.go_package_laws.proofs.Soundness.{Table, IsSoundType, is_of_kind}
use Rattle.go_package_laws.proofs.Types.{sound_underlying}

-- a constant is one of a basic type
abbrev pub is_constant_of : Basic → Const → Bool
is_constant_of (basics.Untyped kind) c = is_of_kind kind c
is_constant_of b c = is_basic b (cell_of c) && is_sound_cell (cell_of c)

-- of a type that has a basic one below it
abbrev pub IsConstantOf : Type' → Const → Type 0
IsConstantOf t c = (b : Basic) × (underlying t ≡ basic b) × (is_constant_of b c ≡ true)

-- what a result gives
abbrev pub Given : (Const → Type 0) → Result Const ConstError → Type 0
Given P (Ok c) = P c
Given P (Err k) = Unit {0}

pub underlying_twice : (t : Type') → underlying (underlying t) ≡ underlying t
underlying_twice (basic b) = refl
underlying_twice (array n t) = refl
underlying_twice (slice t) = refl
underlying_twice (struct fs) = refl
underlying_twice (named p x t) = underlying_twice t

abbrev kind_below : Type' → Option IntKind
kind_below u = elim u [ basic (basics.Integer kind) ↦ Some kind | _ ↦ None ]

-- ---- of the same type

number_below : (u : Type') (b : Basic) (y z : ℤ) → u ≡ basic b → is_constant_of b (Integer y) ≡ true → fits (kind_below u) z ≡ true → is_constant_of b (Integer z) ≡ true
number_below u (basics.Integer i) y z at h f = and_from (fits (Some i) z) true (subst (λ r. fits (kind_below r) z ≡ true) at f) refl
number_below u (basics.Untyped kinds.Int) y z at h f = refl
number_below u (basics.Untyped kinds.Rune) y z at h f = refl
number_below u b y z at h f = absurd (true≢false (sym h))

pub number_of_type : (t : Type') (y z : ℤ) → IsConstantOf t (Integer y) → fits (int_kind t) z ≡ true → IsConstantOf t (Integer z)
number_of_type t y z h f = (h.0, h.1, number_below (underlying t) h.0 y z h.1 h.2 f)

text_below : (b : Basic) (s r : List ℕ) → is_constant_of b (Text s) ≡ true → is_text r ≡ true → is_constant_of b (Text r) ≡ true
text_below basics.String s r h k = k
text_below (basics.Untyped kinds.String) s r h k = k
text_below b s r h k = absurd (true≢false (sym h))

text_below_is : (b : Basic) (s : List ℕ) → is_constant_of b (Text s) ≡ true → is_text s ≡ true
text_below_is basics.String s h = h
text_below_is (basics.Untyped kinds.String) s h = h
text_below_is b s h = absurd (true≢false (sym h))

pub text_is : (t : Type') (s : List ℕ) → IsConstantOf t (Text s) → is_text s ≡ true
text_is t s h = text_below_is h.0 s h.2

truth_below : (b : Basic) (x y : Bool) → is_constant_of b (Truth x) ≡ true → is_constant_of b (Truth y) ≡ true
truth_below basics.Bool x y h = refl
truth_below (basics.Untyped kinds.Bool) x y h = refl
truth_below b x y h = absurd (true≢false (sym h))

pub truth_of_type : (t : Type') (x y : Bool) → IsConstantOf t (Truth x) → IsConstantOf t (Truth y)
truth_of_type t x y h = (h.0, h.1, truth_below h.0 x y h.2)

-- ---- what operators give

represented : (t : Type') (y z : ℤ) → IsConstantOf t (Integer y) → (kind : Option IntKind) → int_kind t ≡ kind → Given (IsConstantOf t) (represent kind z)
represented t y z h None at = elim (cases_Bool (fits None z)) [
  | inl is ↦ rw is (number_of_type t y z h (ap (λ k. fits k z) at ∙ is))
  | inr not_so ↦ rw not_so tt
]
represented t y z h (Some kind) at = elim (cases_Bool (fits (Some kind) z)) [
  | inl is ↦ rw is (number_of_type t y z h (ap (λ k. fits k z) at ∙ is))
  | inr not_so ↦ rw not_so tt
]

pub one_operand : (t : Type') (op : UnaryOperator) (c : Const) → IsConstantOf t c → Given (IsConstantOf t) (unary op (int_kind t) c)
one_operand t Positive (Integer z) h = represented t z z h (int_kind t) refl
one_operand t Negative (Integer z) h = represented t z (neg_ℤ z) h (int_kind t) refl
one_operand t Complement (Integer z) h = represented t z _ h (int_kind t) refl
one_operand t Negation (Truth b) h = truth_of_type t b (not b) h
one_operand t op c h = tt

joined_text : (s r : List ℕ) → is_text s ≡ true → is_text r ≡ true → nat_le (length (s ++ r)) 16777216 ≡ true → is_text (s ++ r) ≡ true
joined_text s r h k short =
    let byte = λ (b : ℕ). nat_lt b 256 in
    let one = and_parts (list_all byte s) (fits (Some integers.Int) (pos (length s))) h in
    let two = and_parts (list_all byte r) (fits (Some integers.Int) (pos (length r))) k in
    let bytes : list_all byte (s ++ r) ≡ true = list_all-append byte s r ∙ and_from (list_all byte s) (list_all byte r) one.0 two.0 in
    let within = leb-true (length (s ++ r)) 16777216 short in
    and_from (list_all byte (s ++ r)) (fits (Some integers.Int) (pos (length (s ++ r)))) bytes (lt-ltb (length (s ++ r)) 9223372036854775808 (omega (arith, within)))

texts : (t : Type') (s r : List ℕ) → IsConstantOf t (Text s) → is_text r ≡ true → Given (IsConstantOf t) (represent_text (s ++ r))
texts t s r h k = elim (cases_Bool (nat_le (length (s ++ r)) 16777216)) [
  | inl short ↦ rw short (h.0, h.1, text_below h.0 s (s ++ r) h.2 (joined_text s r (text_is t s h) k short))
  | inr long ↦ rw long tt
]

-- the type of the operands is that of one of them
abbrev pub IsEither : Type' → Const → Const → Type 0
IsEither t c d = IsConstantOf t c ⊎ IsConstantOf t d

number_either : (t : Type') (x y : ℤ) → IsEither t (Integer x) (Integer y) → (y : ℤ) × IsConstantOf t (Integer y)
number_either t x y (inl h) = (x, h)
number_either t x y (inr h) = (y, h)

truth_either : (t : Type') (x y z : Bool) → IsEither t (Truth x) (Truth y) → IsConstantOf t (Truth z)
truth_either t x y z (inl h) = truth_of_type t x z h
truth_either t x y z (inr h) = truth_of_type t y z h

text_either : (t : Type') (s r q : List ℕ) → IsEither t (Text s) (Text r) → is_text q ≡ true → IsConstantOf t (Text q)
text_either t s r q (inl h) k = (h.0, h.1, text_below h.0 s q h.2 k)
text_either t s r q (inr h) k = (h.0, h.1, text_below h.0 r q h.2 k)

numbers : (t : Type') (op : ArithmeticOperator) (x y : ℤ) → IsEither t (Integer x) (Integer y) → Given (IsConstantOf t) (binary (Arithmetic op) (int_kind t) (Integer x) (Integer y))
numbers t op x y h =
    let one = number_either t x y h in
    elim (cases_Bool (divides op && int_eq y (pos 0))) [
      | inl is ↦ rw is tt
      | inr not_so ↦ rw not_so (represented t one.0 (arithmetic op x y) one.1 (int_kind t) refl)
    ]

both_texts : (t : Type') (op : ArithmeticOperator) (s r : List ℕ) → IsEither t (Text s) (Text r) → is_text s ≡ true → is_text r ≡ true
    → Given (IsConstantOf t) (binary (Arithmetic op) (int_kind t) (Text s) (Text r))
both_texts t Add s r h k l = elim (cases_Bool (nat_le (length (s ++ r)) 16777216)) [
  | inl short ↦ rw short (text_either t s r (s ++ r) h (joined_text s r k l short))
  | inr long ↦ rw long tt
]
both_texts t op s r h k l = tt

truth_itself : (b : Bool) → IsConstantOf (basic (basics.Untyped kinds.Bool)) (Truth b)
truth_itself b = (basics.Untyped kinds.Bool, refl, refl)

pub two_operands : (t v u : Type') (op : BinaryOperator) (c d : Const) → IsEither t c d → IsConstantOf v c → IsConstantOf u d
    → Given (IsConstantOf (result_type op t)) (binary op (int_kind t) c d)
two_operands t v u (Arithmetic op) (Integer x) (Integer y) h k l = numbers t op x y h
two_operands t v u (Arithmetic op) (Text s) (Text r) h k l = both_texts t op s r h (text_is v s k) (text_is u r l)
two_operands t v u (Arithmetic Add) c d h k l = tt
two_operands t v u (Arithmetic op) c d h k l = tt
two_operands t v u (Comparison op) (Integer x) (Integer y) h k l = truth_itself _
two_operands t v u (Comparison op) (Text s) (Text r) h k l = truth_itself _
two_operands t v u (Comparison Equal) (Truth a) (Truth b) h k l = truth_itself _
two_operands t v u (Comparison NotEqual) (Truth a) (Truth b) h k l = truth_itself _
two_operands t v u (Comparison op) c d h k l = tt
two_operands t v u LogicalAnd (Truth a) (Truth b) h k l = truth_either t a b (a && b) h
two_operands t v u LogicalOr (Truth a) (Truth b) h k l = truth_either t a b (a || b) h
two_operands t v u op c d h k l = tt

moved : (t : Type') (op : ShiftOperator) (z : ℤ) (count : ℕ) → IsConstantOf t (Integer z) → Given (IsConstantOf t) (shifted op (int_kind t) z count)
moved t Right z count h = represented t z _ h (int_kind t) refl
moved t Left z count h = elim (cases_Bool (nat_le 128 count && not (int_eq z (pos 0)))) [ inl is ↦ rw is tt | inr not_so ↦ rw not_so (represented t z _ h (int_kind t) refl) ]

pub shift_operands : (t : Type') (op : ShiftOperator) (c d : Const) → IsConstantOf t c → Given (IsConstantOf t) (shift op (int_kind t) c d)
shift_operands t op (Integer z) (Integer count) h =
    elim (cases_Bool (fits (Some integers.Uint) count)) [ inl is ↦ rw is (moved t op z (unsigned_abs count) h) | inr not_so ↦ rw not_so tt ]
shift_operands t op c d h = tt

-- ---- as constants of other types

kind_same : (t : Type') (c : Const) → in_kind (int_kind t) c ≡ true → in_kind (kind_below (underlying t)) c ≡ true
kind_same t c h = h

fit_below : (k : Untyped) (u : Type') (c : Const) → is_of_kind k c ≡ true → relations.kind_fits (basic (basics.Untyped k)) u ≡ true → in_kind (kind_below u) c ≡ true
    → (b : Basic) × (u ≡ basic b) × (is_constant_of b c ≡ true)
fit_below kinds.Bool (basic basics.Bool) (Truth x) h f i = (basics.Bool, refl, refl)
fit_below kinds.Int (basic (basics.Integer j)) (Integer z) h f i = (basics.Integer j, refl, and_from (fits (Some j) z) true i refl)
fit_below kinds.Rune (basic (basics.Integer j)) (Integer z) h f i = (basics.Integer j, refl, and_from (fits (Some j) z) true i refl)
fit_below kinds.String (basic basics.String) (Text s) h f i = (basics.String, refl, h)
fit_below kinds.Bool (basic basics.Bool) c h f i = absurd (true≢false (sym h))
fit_below kinds.Int (basic (basics.Integer j)) c h f i = absurd (true≢false (sym h))
fit_below kinds.Rune (basic (basics.Integer j)) c h f i = absurd (true≢false (sym h))
fit_below kinds.String (basic basics.String) c h f i = absurd (true≢false (sym h))
fit_below k u c h f i = absurd (true≢false (sym f))

-- a constant without type, of a type that its kind fits
pub fit_constant : (k : Untyped) (t : Type') (c : Const) → is_of_kind k c ≡ true → relations.kind_fits (basic (basics.Untyped k)) (underlying t) ≡ true → in_kind (int_kind t) c ≡ true → IsConstantOf t c
fit_constant k t c h f i = fit_below k (underlying t) c h f (kind_same t c i)

pub same_constant : (t u : Type') (c : Const) → underlying t ≡ underlying u → IsConstantOf t c → IsConstantOf u c
same_constant t u c e h = (h.0, sym e ∙ h.1, h.2)

integer_below : (v u : Type') (b : Basic) (c : Const) → v ≡ basic b → is_constant_of b c ≡ true → are_integers v u ≡ true → in_kind (kind_below u) c ≡ true
    → (b : Basic) × (u ≡ basic b) × (is_constant_of b c ≡ true)
integer_below (basic (basics.Integer i)) (basic (basics.Integer j)) (basics.Integer l) (Integer z) at h f k = (basics.Integer j, refl, and_from (fits (Some j) z) true k refl)
integer_below (basic (basics.Integer i)) (basic (basics.Integer j)) (basics.Integer l) c at h f k = absurd (true≢false (sym h))
integer_below (basic (basics.Integer i)) (basic (basics.Integer j)) b c at h f k = absurd cc
integer_below v u b c at h f k = absurd (true≢false (sym f))

pub integer_constant : (t u : Type') (c : Const) → IsConstantOf t c → are_integers (underlying t) (underlying u) ≡ true → in_kind (int_kind u) c ≡ true → IsConstantOf u c
integer_constant t u c h f k = integer_below (underlying t) (underlying u) h.0 c h.1 h.2 f (kind_same u c k)

-- ---- the constants of well typed trees

below_of : (t : Type') (x : _) → is_of t (single x) ≡ is_of (underlying t) (single x)
below_of (basic b) x = refl
below_of (array n t) x = refl
below_of (slice t) x = refl
below_of (struct fs) x = refl
below_of (named p y t) x = below_of t x

typed_below : (b : Basic) (c : Const) → is_typed b ≡ true → is_constant_of b c ≡ true → (is_basic b (cell_of c) ≡ true) × (is_sound_cell (cell_of c) ≡ true)
typed_below basics.Bool c h k = and_parts (is_basic basics.Bool (cell_of c)) (is_sound_cell (cell_of c)) k
typed_below basics.String c h k = and_parts (is_basic basics.String (cell_of c)) (is_sound_cell (cell_of c)) k
typed_below (basics.Integer i) c h k = and_parts (is_basic (basics.Integer i) (cell_of c)) (is_sound_cell (cell_of c)) k
typed_below (basics.Untyped kind) c h k = absurd (true≢false (sym h))

-- a constant of a sound type is well typed
pub typed_constant : (w : Table) (t : Type') (c : Const) → IsSoundType w t → IsConstantOf t c → IsConstant t c
typed_constant w t c h k =
    let below = sound_underlying w t h in
    let parts = typed_below k.0 c (subst (IsSoundType w) k.1 below) k.2 in
    (below_of t (cell_of c) ∙ ap (λ u. is_of u (single (cell_of c))) k.1 ∙ parts.0, parts.1)

below_typed : (b : Basic) (c : Const) → is_typed b ≡ true → is_basic b (cell_of c) ≡ true → is_sound_cell (cell_of c) ≡ true → is_constant_of b c ≡ true
below_typed basics.Bool c h k l = and_from (is_basic basics.Bool (cell_of c)) (is_sound_cell (cell_of c)) k l
below_typed basics.String c h k l = and_from (is_basic basics.String (cell_of c)) (is_sound_cell (cell_of c)) k l
below_typed (basics.Integer i) c h k l = and_from (is_basic (basics.Integer i) (cell_of c)) (is_sound_cell (cell_of c)) k l
below_typed (basics.Untyped kind) c h k l = absurd (true≢false (sym h))

-- no constant is a slice
pub no_slice : (t : Type') (c : Const) → is_of (slice t) (single (cell_of c)) ≡ false
no_slice t (Integer z) = refl
no_slice t (Text text) = refl
no_slice t (Truth b) = refl

pub constant_typed : (w : Table) (t : Type') (c : Const) → IsSoundType w t → IsConstant t c → IsConstantOf t c
constant_typed w (basic b) c h k = (b, refl, below_typed b c h k.0 k.1)
constant_typed w (array n t) c h k = absurd (true≢false (sym k.0))
constant_typed w (slice t) c h k = absurd (true≢false (sym k.0 ∙ no_slice t c))
constant_typed w (struct fs) c h k = absurd (true≢false (sym k.0))
constant_typed w (named p x t) c h k = constant_typed w t c h.1 k
