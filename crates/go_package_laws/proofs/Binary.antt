-- Operators between sound values are sound.
use Rattle.std.proofs.Common.{◌≡◌, ℕ, Bool, true, false, ◌&&◌, ◌||◌, List, Option, Some, None, refl, ap, sym, ◌∙◌, subst, true≢false, ◌⊎◌, inl, inr}
use Rattle.std.specs.Prelude.{if◌then◌else◌}
use Rattle.std.proofs.lemmas.Bool.{and_parts, or_cases, or_left, or_right}
use Rattle.go_text.specs.declared.fault.FaultKind.TheVariants.{DivideByZero}
use Rattle.go_const.specs.declared.constant.Const.{Const}
use Rattle.go_const.specs.declared.constant.Const.TheVariants.{Bool as Truth}
use Rattle.go_const.specs.declared.operator.BinaryOperator.{BinaryOperator}
use Rattle.go_const.specs.declared.operator.BinaryOperator.TheVariants.{Arithmetic, Comparison, LogicalAnd, LogicalOr}
use Rattle.go_const.specs.declared.operator.ArithmeticOperator.{ArithmeticOperator}
use Rattle.go_const.specs.declared.operator.ArithmeticOperator.TheVariants.{Add}
use Rattle.go_const.specs.declared.operator.ComparisonOperator.{ComparisonOperator}
use Rattle.go_const.specs.declared.operator.ComparisonOperator.TheVariants.{Equal, NotEqual}
use Rattle.go_const.specs.Constants as constants
use Rattle.go_types.specs.declared.types.Basic.TheVariants as basics
use Rattle.go_types.specs.declared.types.Untyped.{Untyped}
use Rattle.go_types.specs.declared.types.Untyped.TheVariants as kinds
use Rattle.go_types.specs.Types.{Type', basic, array, slice, struct, named}
use Rattle.go_types.specs.Relations.{underlying, identical, is_comparable, assignable}
use Rattle.go_typed.specs.declared.expression.Operator.TheVariants as nodes
use Rattle.go_typed.specs.Trees as typed
use Rattle.go_typed.specs.Trees.{Expr, constant, expr_type}
use Rattle.go_meaning_laws.specs.WellTyped.{Setting, is_integer_type, is_string_type, is_sum, is_compared, IsConstant, IsExpr}
use Rattle.go_expr.specs.Known.{Verdict, Fine, Breaks, Passed}
use Rattle.go_expr.specs.Rules as rules
use Rattle.go_expr.specs.Rules.{checked, constant_in, int_kind, lies_in, as_type, takes_type, common, is_defined, result_type, operation, divides_by_zero, operation_verdict, operand_type, combined}
use Rattle.go_package_laws.proofs.Soundness.{Table, IsSoundType, is_of_kind, HasSoundWay, IsSoundValue}
use Rattle.go_package_laws.proofs.Types.{untyped_bool, no_untyped, not_assignable, assignable_itself}
use Rattle.go_package_laws.proofs.Constants.{IsConstantOf, IsEither, two_operands}
use Rattle.go_package_laws.proofs.Assigned.{Gives, IsOperandType, some_same, none_some, kind_of, value_type, GoodAs, good_as}
use Rattle.go_package_laws.proofs.Defaults.{sound_bool}
use Rattle.go_package_laws.proofs.Operators.{given_sound, IsValueType, other_value, value_made, integer_value, string_value, constant_of}

pub checked_gives : {A B : Type 0} (P : A → Type 0) (Q : B → Type 0) (rule : A → Verdict B) (v : Verdict A) → Gives P v → ((x : A) → P x → Gives Q (rule x)) → Gives Q (checked rule v)
checked_gives P Q rule (Fine x) h each = each x h
checked_gives P Q rule (Breaks kind) h each = tt
checked_gives P Q rule Passed h each = tt

-- ---- the type that both operands are taken as

-- of one of the operands' types, which the other takes too
abbrev IsCommon : Type' → Type' → Type' → Type 0
IsCommon v u t = ((t ≡ v) × (takes_type u t ≡ true)) ⊎ ((t ≡ u) × (takes_type v t ≡ true))

common_by : (v u t : Type') (a b : Bool) → takes_type u v ≡ a → takes_type v u ≡ b → (if a then Some v else (if b then Some u else None)) ≡ Some t → IsCommon v u t
common_by v u t true b p q h = (let same : t ≡ v = sym (some_same v t h) in inl (same, ap (takes_type u) same ∙ p))
common_by v u t false true p q h = (let same : t ≡ u = sym (some_same u t h) in inr (same, ap (takes_type v) same ∙ q))
common_by v u t false false p q h = absurd (none_some t h)

common_is : (v u t : Type') → common v u ≡ Some t → IsCommon v u t
common_is v u t h = common_by v u t (takes_type u v) (takes_type v u) refl refl h

-- what is known of that type
abbrev IsOperand : BinaryOperator → Expr → Expr → Type' → Type 0
IsOperand op x y t = IsCommon (expr_type x) (expr_type y) t × (is_defined op t ≡ true) × (lies_in t x ≡ true) × (lies_in t y ≡ true)

operand_if : (op : BinaryOperator) (x y : Expr) (t : Type') → common (expr_type x) (expr_type y) ≡ Some t → (a b : Bool) → is_defined op t ≡ a → (lies_in t x && lies_in t y) ≡ b
    → Gives (IsOperand op x y) (operand_type op x y)
operand_if op x y t at false b p q = rw (at, Gives, p) tt
operand_if op x y t at true false p q = rw (at, Gives, p, q) tt
operand_if op x y t at true true p q = (let lies = and_parts (lies_in t x) (lies_in t y) q in rw (at, Gives, p, q) (common_is (expr_type x) (expr_type y) t at, p, lies.0, lies.1))

operand_types : (op : BinaryOperator) (x y : Expr) → Gives (IsOperand op x y) (operand_type op x y)
operand_types op x y = elim (common (expr_type x) (expr_type y)) as (λ o. common (expr_type x) (expr_type y) ≡ o → Gives (IsOperand op x y) (operand_type op x y)) [
  | None ↦ λ at. rw (at, Gives) tt
  | Some t ↦ λ at. operand_if op x y t at (is_defined op t) (lies_in t x && lies_in t y) refl refl
] refl

-- ---- what an operator is defined on

sums : (op : ArithmeticOperator) (s : Type') → is_integer_type s ≡ true → is_sum op s ≡ true
sums Add s h = or_left (is_integer_type s) (is_string_type s) h
sums op s h = h

comparable_integer : (s : Type') → is_integer_type s ≡ true → is_comparable s ≡ true
comparable_integer (basic b) h = refl
comparable_integer s h = absurd (true≢false (sym h))

comparable_text : (s : Type') → is_string_type s ≡ true → is_comparable s ≡ true
comparable_text (basic b) h = refl
comparable_text s h = absurd (true≢false (sym h))

compared_integers : (op : ComparisonOperator) (s : Type') → is_integer_type s ≡ true → is_compared op s ≡ true
compared_integers Equal s h = comparable_integer s h
compared_integers NotEqual s h = comparable_integer s h
compared_integers op s h = or_left (is_integer_type s) (is_string_type s) h

compared_texts : (op : ComparisonOperator) (s : Type') → is_string_type s ≡ true → is_compared op s ≡ true
compared_texts Equal s h = comparable_text s h
compared_texts NotEqual s h = comparable_text s h
compared_texts op s h = or_right (is_integer_type s) (is_string_type s) h

comparable_below : (t : Type') → is_comparable t ≡ true → is_comparable (underlying t) ≡ true
comparable_below (named p x t) h = comparable_below t h
comparable_below t h = h

abbrev equals : ComparisonOperator → Type' → Bool
equals op t = elim op [ Equal ↦ is_comparable t | NotEqual ↦ is_comparable t | _ ↦ false ]

compared_equal : (op : ComparisonOperator) (t : Type') → equals op t ≡ true → is_compared op (underlying t) ≡ true
compared_equal Equal t h = comparable_below t h
compared_equal NotEqual t h = comparable_below t h
compared_equal op t h = absurd (true≢false (sym h))

module _ (w : Table) (g : Setting) (d : List ℕ) where
  sum_of_texts : (op : ArithmeticOperator) (t : Type') → IsValueType w g d t → (elim op [ Add ↦ rules.is_string t | _ ↦ false ]) ≡ true → is_sum op (underlying t) ≡ true
  sum_of_texts Add t h e = or_right (is_integer_type (underlying t)) (is_string_type (underlying t)) (string_value w g d t h e)
  sum_of_texts op t h e = absurd (true≢false (sym e))

  arithmetic_defined : (op : ArithmeticOperator) (t : Type') → IsValueType w g d t → is_defined (Arithmetic op) t ≡ true → is_sum op (underlying t) ≡ true
  arithmetic_defined op t h e = elim (or_cases (rules.is_integer t) (elim op [ Add ↦ rules.is_string t | _ ↦ false ]) e) [
    | inl integer ↦ sums op (underlying t) (integer_value w g d t h integer)
    | inr texts ↦ sum_of_texts op t h texts
  ]

  comparison_defined : (op : ComparisonOperator) (t : Type') → IsValueType w g d t → is_defined (Comparison op) t ≡ true → is_compared op (underlying t) ≡ true
  comparison_defined op t h e = elim (or_cases (rules.is_integer t || rules.is_string t) (equals op t) e) [
    | inr equal ↦ compared_equal op t equal
    | inl rest ↦ elim (or_cases (rules.is_integer t) (rules.is_string t) rest) [
      | inl integer ↦ compared_integers op (underlying t) (integer_value w g d t h integer)
      | inr text ↦ compared_texts op (underlying t) (string_value w g d t h text)
    ]
  ]

  -- ---- the operator between operands of that type

  same_types : (t : Type') (a b : Expr) → expr_type a ≡ t → expr_type b ≡ t → expr_type a ≡ expr_type b
  same_types t a b h k = h ∙ sym k

  operation_sound : (op : BinaryOperator) (t : Type') (a b : Expr) → IsValueType w g d t → is_defined op t ≡ true → GoodAs w g d t a → GoodAs w g d t b
      → IsSoundValue w g d (operation op (result_type op t) a b)
  operation_sound (Arithmetic op) t a b h e k l = value_made w g d (typed.binary t (nodes.Arithmetic op) a b) (k.0, l.0, (k.1, l.1, arithmetic_defined op t h e)) h refl k.2
  operation_sound (Comparison op) t a b h e k l =
      value_made w g d (typed.binary untyped_bool (nodes.Comparison op) a b)
      (k.0, l.0, (refl, same_types t a b k.1 l.1, subst (λ u. is_compared op (underlying u) ≡ true) (sym k.1) (comparison_defined op t h e))) (inr refl) refl k.2
  operation_sound LogicalAnd t a b h e k l = value_made w g d (typed.both t a b) (k.0, l.0, k.1, l.1, sound_bool t e) h refl tt
  operation_sound LogicalOr t a b h e k l = value_made w g d (typed.either t a b) (k.0, l.0, k.1, l.1, sound_bool t e) h refl tt

  -- ---- operands as values of that type

  -- the type of the operand, or one that it takes
  abbrev IsTaken : Expr → Type' → Type 0
  IsTaken e t = (expr_type e ≡ t) ⊎ (takes_type (expr_type e) t ≡ true)

  takes_assignable : (v t : Type') → IsSoundType w t → takes_type v t ≡ true → assignable v t ≡ true
  takes_assignable (basic (basics.Untyped kinds.Int)) (basic (basics.Untyped kinds.Rune)) h e = absurd (true≢false (sym h))
  takes_assignable v t h e = e

  taken_assignable : (e : Expr) (t : Type') → IsSoundType w t → IsTaken e t → assignable (expr_type e) t ≡ true
  taken_assignable e t h (inl same) = subst (λ u. assignable u t ≡ true) (sym same) (assignable_itself t)
  taken_assignable e t h (inr taken) = takes_assignable (expr_type e) t h taken

  operand_as : (e : Expr) (t : Type') → IsSoundType w t → IsSoundValue w g d e → IsTaken e t → lies_in t e ≡ true → GoodAs w g d t (as_type t e)
  operand_as e t h k taken lies = good_as w g d t e h k (taken_assignable e t h taken) lies

  -- a value of a sound type takes none without
  sound_takes_none : (v : Type') (k : Untyped) → IsSoundType w v → takes_type v (basic (basics.Untyped k)) ≡ true → ⊥
  sound_takes_none (basic basics.Bool) k h e = not_assignable w (basic basics.Bool) k h e
  sound_takes_none (basic basics.String) k h e = not_assignable w (basic basics.String) k h e
  sound_takes_none (basic (basics.Integer i)) k h e = not_assignable w (basic (basics.Integer i)) k h e
  sound_takes_none (basic (basics.Untyped l)) k h e = true≢false (sym h)
  sound_takes_none (array n t) k h e = not_assignable w (array n t) k h e
  sound_takes_none (slice t) k h e = not_assignable w (slice t) k h e
  sound_takes_none (struct fs) k h e = not_assignable w (struct fs) k h e
  sound_takes_none (named p x t) k h e = not_assignable w (named p x t) k h e

  truth_takes : (k : Untyped) → takes_type untyped_bool (basic (basics.Untyped k)) ≡ true → basic (basics.Untyped k) ≡ untyped_bool
  truth_takes kinds.Bool e = refl
  truth_takes kinds.Int e = absurd (true≢false (sym e))
  truth_takes kinds.Rune e = absurd (true≢false (sym e))
  truth_takes kinds.String e = absurd (true≢false (sym e))

  taken_by_truth : (k : Untyped) → takes_type (basic (basics.Untyped k)) untyped_bool ≡ true → basic (basics.Untyped k) ≡ untyped_bool
  taken_by_truth kinds.Bool e = refl
  taken_by_truth kinds.Int e = absurd (true≢false (sym e))
  taken_by_truth kinds.Rune e = absurd (true≢false (sym e))
  taken_by_truth kinds.String e = absurd (true≢false (sym e))

  -- where an operand isn't constant, a type without type is that of truth values
  other_takes : (e : Expr) (k : Untyped) → IsValueType w g d (expr_type e) → IsTaken e (basic (basics.Untyped k)) → basic (basics.Untyped k) ≡ untyped_bool
  other_takes e k (inl h) (inl same) = absurd (no_untyped w (expr_type e) k h same)
  other_takes e k (inl h) (inr taken) = absurd (sound_takes_none (expr_type e) k h taken)
  other_takes e k (inr h) (inl same) = sym same ∙ h
  other_takes e k (inr h) (inr taken) = truth_takes k (subst (λ u. takes_type u (basic (basics.Untyped k)) ≡ true) h taken)

  -- and both operands have it
  truth_taken : (e : Expr) → IsOperandType w (expr_type e) → IsTaken e untyped_bool → expr_type e ≡ untyped_bool
  truth_taken e h (inl same) = same
  truth_taken e (inl h) (inr taken) = absurd (sound_takes_none (expr_type e) kinds.Bool h taken)
  truth_taken e (inr h) (inr taken) = h.1 ∙ taken_by_truth h.0 (subst (λ u. takes_type u untyped_bool ≡ true) h.1 taken)

  truth_constant : (c : Const) → is_of_kind kinds.Bool c ≡ true → IsConstant untyped_bool c
  truth_constant (Truth b) h = (refl, refl)
  truth_constant c h = absurd (true≢false (sym h))

  abbrev as_of : Type' → Expr → Option Const → Expr
  as_of t e o = elim o [ Some c ↦ constant t c | None ↦ if identical (expr_type e) t then e else typed.conversion t e ]

  truth_unless : (e : Expr) → IsExpr g d e → expr_type e ≡ untyped_bool → HasSoundWay w e → (b : Bool) → GoodAs w g d untyped_bool (if b then e else typed.conversion untyped_bool e)
  truth_unless e h at way true = (h, at, way)
  truth_unless e h at way false = ((h, inl (ap underlying at)), refl, tt)

  truth_as_by : (e : Expr) → IsSoundValue w g d e → expr_type e ≡ untyped_bool → (o : Option Const) → constant_in e ≡ o → GoodAs w g d untyped_bool (as_of untyped_bool e o)
  truth_as_by e h at (Some c) is = (truth_constant c (kind_of w g d (expr_type e) c kinds.Bool at (constant_of w g d e c h is).1), refl, tt)
  truth_as_by e h at None is = (let other = other_value w g d e h is in truth_unless e other.0 at other.2 (identical (expr_type e) untyped_bool))

  truth_as : (e : Expr) → IsSoundValue w g d e → expr_type e ≡ untyped_bool → GoodAs w g d untyped_bool (as_type untyped_bool e)
  truth_as e h at = truth_as_by e h at (constant_in e) refl

  -- both operands as values of the type, where one isn't constant
  abbrev AreOperands : Type' → Expr → Expr → Type 0
  AreOperands t x y = IsValueType w g d t × GoodAs w g d t (as_type t x) × GoodAs w g d t (as_type t y)

  truths : (t : Type') (x y : Expr) → IsSoundValue w g d x → IsSoundValue w g d y → IsTaken x t → IsTaken y t → t ≡ untyped_bool → AreOperands t x y
  truths t x y h k m n at =
      subst (λ u. AreOperands u x y) (sym at) (
        inr refl,
        truth_as x h (truth_taken x (value_type w g d x h) (subst (IsTaken x) at m)),
        truth_as y k (truth_taken y (value_type w g d y k) (subst (IsTaken y) at n)),
      )

  operands_as : (t : Type') (x y : Expr) → IsSoundValue w g d x → IsSoundValue w g d y → IsTaken x t → IsTaken y t → lies_in t x ≡ true → lies_in t y ≡ true
      → IsOperandType w t → (constant_in x ≡ None) ⊎ (constant_in y ≡ None) → AreOperands t x y
  operands_as t x y h k m n i j (inl s) none = (inl s, operand_as x t s h m i, operand_as y t s k n j)
  operands_as t x y h k m n i j (inr s) (inl none) =
      truths t x y h k m n (s.1 ∙ other_takes x s.0 (other_value w g d x h none).1 (subst (IsTaken x) s.1 m))
  operands_as t x y h k m n i j (inr s) (inr none) =
      truths t x y h k m n (s.1 ∙ other_takes y s.0 (other_value w g d y k none).1 (subst (IsTaken y) s.1 n))

  -- ---- two operands

  unless_zero : (op : BinaryOperator) (t : Type') (x y : Expr) (b : Bool) → AreOperands t x y → is_defined op t ≡ true
      → Gives (IsSoundValue w g d) (if b then Breaks DivideByZero else Fine (operation op (result_type op t) (as_type t x) (as_type t y)))
  unless_zero op t x y true h e = tt
  unless_zero op t x y false h e = operation_sound op t (as_type t x) (as_type t y) h.0 e h.1 h.2

  result_operand : (op : BinaryOperator) (t : Type') → IsOperandType w t → IsOperandType w (result_type op t)
  result_operand (Arithmetic op) t h = h
  result_operand (Comparison op) t h = inr (kinds.Bool, refl)
  result_operand LogicalAnd t h = h
  result_operand LogicalOr t h = h

  either_constant : (v u t : Type') (c e : Const) → IsCommon v u t → IsConstantOf v c → IsConstantOf u e → IsEither t c e
  either_constant v u t c e (inl at) h k = inl (subst (λ r. IsConstantOf r c) (sym at.0) h)
  either_constant v u t c e (inr at) h k = inr (subst (λ r. IsConstantOf r e) (sym at.0) k)

  operand_type_of : (v u t : Type') → IsCommon v u t → IsOperandType w v → IsOperandType w u → IsOperandType w t
  operand_type_of v u t (inl at) h k = subst (IsOperandType w) (sym at.0) h
  operand_type_of v u t (inr at) h k = subst (IsOperandType w) (sym at.0) k

  first_taken : (x y : Expr) (t : Type') → IsCommon (expr_type x) (expr_type y) t → IsTaken x t
  first_taken x y t (inl at) = inl (sym at.0)
  first_taken x y t (inr at) = inr at.1

  second_taken : (x y : Expr) (t : Type') → IsCommon (expr_type x) (expr_type y) t → IsTaken y t
  second_taken x y t (inl at) = inr at.1
  second_taken x y t (inr at) = inl (sym at.0)

  others : (op : BinaryOperator) (x y : Expr) (t : Type') → IsSoundValue w g d x → IsSoundValue w g d y → IsOperand op x y t → (constant_in x ≡ None) ⊎ (constant_in y ≡ None) → AreOperands t x y
  others op x y t h k is none =
      operands_as t x y h k (first_taken x y t is.0) (second_taken x y t is.0) is.2 is.3 (operand_type_of (expr_type x) (expr_type y) t is.0 (value_type w g d x h) (value_type w g d y k)) none

  operated_by : (op : BinaryOperator) (x y : Expr) (t : Type') → IsSoundValue w g d x → IsSoundValue w g d y → IsOperand op x y t → (c e : Option Const) → constant_in x ≡ c → constant_in y ≡ e
      → Gives (IsSoundValue w g d) (operation_verdict op t x y c e)
  operated_by op x y t h k is (Some c) (Some e) at to =
      let one = constant_of w g d x c h at in
      let two = constant_of w g d y e k to in
      given_sound w g d (result_type op t) (constants.binary op (int_kind t) c e) (result_operand op t (operand_type_of (expr_type x) (expr_type y) t is.0 one.0 two.0))
      (two_operands t (expr_type x) (expr_type y) op c e (either_constant (expr_type x) (expr_type y) t c e is.0 one.1 two.1) one.1 two.1)
  operated_by op x y t h k is None e at to = unless_zero op t x y (divides_by_zero op e) (others op x y t h k is (inl at)) is.1
  operated_by op x y t h k is (Some c) None at to = unless_zero op t x y (divides_by_zero op None) (others op x y t h k is (inr to)) is.1

  pub combined_gives : (op : BinaryOperator) (x y : Expr) → IsSoundValue w g d x → IsSoundValue w g d y → Gives (IsSoundValue w g d) (combined op x y)
  combined_gives op x y h k =
      checked_gives (IsOperand op x y) (IsSoundValue w g d) (λ t. operation_verdict op t x y (constant_in x) (constant_in y)) (operand_type op x y) (operand_types op x y)
      (λ t is. operated_by op x y t h k is (constant_in x) (constant_in y) refl refl)
