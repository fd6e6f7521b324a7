-- Conversions, conditions and operators of sound values are sound.
use Rattle.std.proofs.Common.{◌≡◌, ℕ, Bool, true, false, List, Option, Some, None, Result, Ok, Err, refl, ap, sym, ◌∙◌, subst, true≢false, ◌⊎◌, inl, inr}
use Rattle.go_ast.specs.declared.expression.UnaryOperator as signs
use Rattle.go_ast.specs.declared.expression.UnaryOperator.TheVariants as sign
use Rattle.go_const.specs.declared.constant.Const.{Const}
use Rattle.go_const.specs.declared.error.ConstError.{ConstError}
use Rattle.go_const.specs.declared.error.ConstError.TheVariants as errors
use Rattle.go_const.specs.Constants as constants
use Rattle.go_types.specs.declared.types.Basic.TheVariants as basics
use Rattle.go_types.specs.declared.types.Untyped.TheVariants as kinds
use Rattle.go_types.specs.Types.{Type', basic}
use Rattle.go_types.specs.Relations.{underlying, convertible}
use Rattle.go_typed.specs.Trees as typed
use Rattle.go_typed.specs.Trees.{Expr, constant, expr_type}
use Rattle.go_meaning_laws.specs.WellTyped.{Setting, is_bool_type, is_integer_type, is_string_type, is_unary, Converts, IsExpr, IsCondition}
use Rattle.go_expr.specs.Known.{Verdict, Fine, Breaks, Passed}
use Rattle.go_expr.specs.Rules as rules
use Rattle.go_expr.specs.Rules.{constant_or_fault, constant_in, int_kind, in_kind, lies_in, default_type, defaulted, condition, converted, operator_of, is_operand, unary_verdict}
use Rattle.go_package_laws.proofs.Soundness.{Table, IsSoundType, HasSoundWay, is_operation, IsSoundValue}
use Rattle.go_package_laws.proofs.Types.{untyped_bool, convertible_same, both_integers, untyped_converts, fits_truth}
use Rattle.go_package_laws.proofs.Constants.{IsConstantOf, Given, one_operand, same_constant, integer_constant, fit_constant}
use Rattle.go_package_laws.proofs.Assigned.{Gives, IsOperandType, some_none, some_same, none_some, value_constant, constant_value, kind_of, value_type, sound_default, GoodAs, defaulted_gives, converts_truth}
use Rattle.go_package_laws.proofs.Defaults.{sound_integer, sound_string, sound_bool, default_bool}

module _ (w : Table) (g : Setting) (d : List ℕ) where
  -- ---- conditions

  default_is_bool : (t : Type') → IsOperandType w t → rules.is_bool t ≡ true → is_bool_type (underlying (default_type t)) ≡ true
  default_is_bool t (inl h) e = subst (λ u. is_bool_type (underlying u) ≡ true) (sym (sound_default w g d t h)) (sound_bool t e)
  default_is_bool t (inr h) e =
      subst (λ u. is_bool_type (underlying (default_type u)) ≡ true) (sym h.1) (sound_bool (default_type (basic (basics.Untyped h.0))) (default_bool h.0 (subst (λ u. rules.is_bool u ≡ true) h.1 e)))

  as_condition : (t : Type') (v : Verdict Expr) → is_bool_type (underlying t) ≡ true → Gives (GoodAs w g d t) v → Gives (IsCondition g d) v
  as_condition t (Fine x) h k = (k.0, subst (λ u. is_bool_type (underlying u) ≡ true) (sym k.1) h)
  as_condition t (Breaks kind) h k = tt
  as_condition t Passed h k = tt

  condition_by : (e : Expr) → IsSoundValue w g d e → (b : Bool) → rules.is_bool (expr_type e) ≡ b → Gives (IsCondition g d) (condition e)
  condition_by e h false is = rw is tt
  condition_by e h true is = rw is (as_condition (default_type (expr_type e)) (defaulted e) (default_is_bool (expr_type e) (value_type w g d e h) is) (defaulted_gives w g d e h))

  pub condition_gives : (e : Expr) → IsSoundValue w g d e → Gives (IsCondition g d) (condition e)
  condition_gives e h = condition_by e h (rules.is_bool (expr_type e)) refl

  -- ---- conversions: https://go.dev/ref/spec#Conversions

  constant_converts : (v t : Type') (c : Const) → IsSoundType w t → IsOperandType w v → IsConstantOf v c → convertible v t ≡ true → in_kind (int_kind t) c ≡ true → IsConstantOf t c
  constant_converts v t c h (inl k) l f i = elim (convertible_same w v t k h f) [
    | inl same ↦ same_constant v t c same l
    | inr integers ↦ integer_constant v t c l integers i
  ]
  constant_converts v t c h (inr k) l f i =
      fit_constant k.0 t c (kind_of w g d v c k.0 k.1 l) (untyped_converts w k.0 t h (subst (λ u. convertible u t ≡ true) k.1 f)) i

  value_converts : (v t : Type') → IsSoundType w t → IsSoundType w v → convertible v t ≡ true → Converts (underlying v) (underlying t)
  value_converts v t h k f = elim (convertible_same w v t k h f) [
    | inl same ↦ inl same
    | inr integers ↦ inr (inl (both_integers (underlying v) (underlying t) integers))
  ]

  abbrev to_of : Type' → Expr → Option Const → Expr
  to_of t e o = elim o [ Some c ↦ constant t c | None ↦ typed.conversion t e ]

  abbrev lies_of : Type' → Option Const → Bool
  lies_of t o = elim o [ None ↦ true | Some c ↦ in_kind (int_kind t) c ]

  constant_to : (t : Type') (e : Expr) (c : Const) → IsSoundType w t → IsSoundValue w g d e → constant_in e ≡ Some c → convertible (expr_type e) t ≡ true → in_kind (int_kind t) c ≡ true → IsConstantOf t c
  constant_to t (constant v b) c h k at f i =
      let one = value_constant w g d v b k in
      subst (IsConstantOf t) (some_same b c at) (constant_converts v t b h one.0 one.1 f (subst (λ a. in_kind (int_kind t) a ≡ true) (sym (some_same b c at)) i))
  constant_to t e c h k at f i = absurd (some_none c (sym at))

  to_by : (t : Type') (e : Expr) → IsSoundType w t → IsSoundValue w g d e → convertible (expr_type e) t ≡ true
      → (o : Option Const) → constant_in e ≡ o → lies_of t o ≡ true → IsSoundValue w g d (to_of t e o)
  to_by t e h k f (Some c) at lies = constant_value w g d t c (inl h) (constant_to t e c h k at f lies)
  to_by t e h (inl k) f None at lies = absurd (none_some k.1 (sym at ∙ ap constant_in k.2))
  to_by t e h (inr (inl k)) f None at lies = inr (inl ((k.0, value_converts (expr_type e) t h k.1 f), h, tt))
  to_by t e h (inr (inr k)) f None at lies =
      inr (inl ((k.0, converts_truth w g d (expr_type e) t k.1 (fits_truth t (untyped_converts w kinds.Bool t h (subst (λ u. convertible u t ≡ true) k.1 f)))), h, tt))

  converted_by : (t : Type') (e : Expr) → IsSoundType w t → IsSoundValue w g d e → (a b : Bool) → convertible (expr_type e) t ≡ a → lies_in t e ≡ b → Gives (IsSoundValue w g d) (converted t e)
  converted_by t e h k false b f lies = rw f tt
  converted_by t e h k true false f lies = rw (f, lies) tt
  converted_by t e h k true true f lies = rw (f, lies) (to_by t e h k f (constant_in e) refl lies)

  pub converted_gives : (t : Type') (e : Expr) → IsSoundType w t → IsSoundValue w g d e → Gives (IsSoundValue w g d) (converted t e)
  converted_gives t e h k = converted_by t e h k (convertible (expr_type e) t) (lies_in t e) refl refl

  -- ---- constants that rules give

  pub given_sound : (t : Type') (r : Result Const ConstError) → IsOperandType w t → Given (IsConstantOf t) r → Gives (IsSoundValue w g d) (constant_or_fault t r)
  given_sound t (Ok c) h k = constant_value w g d t c h k
  given_sound t (Err errors.Mismatch) h k = tt
  given_sound t (Err errors.Range) h k = tt
  given_sound t (Err errors.Constant) h k = tt
  given_sound t (Err errors.Divide) h k = tt
  given_sound t (Err errors.Memory) h k = tt

  -- ---- values that aren't constant

  abbrev pub IsValueType : Type' → Type 0
  IsValueType t = IsSoundType w t ⊎ (t ≡ untyped_bool)

  pub other_value : (e : Expr) → IsSoundValue w g d e → constant_in e ≡ None → IsExpr g d e × IsValueType (expr_type e) × HasSoundWay w e
  other_value e (inl h) none = absurd (none_some h.1 (sym none ∙ ap constant_in h.2))
  other_value e (inr (inl h)) none = (h.0, inl h.1, h.2)
  other_value e (inr (inr h)) none = (h.0, inr h.1, h.3)

  pub value_made : (e : Expr) → IsExpr g d e → IsValueType (expr_type e) → is_operation e ≡ true → HasSoundWay w e → IsSoundValue w g d e
  value_made e h (inl k) is way = inr (inl (h, k, way))
  value_made e h (inr k) is way = inr (inr (h, k, is, way))

  -- ---- one operand

  no_integer : (t : Type') → t ≡ untyped_bool → rules.is_integer t ≡ true → ⊥
  no_integer t at e = true≢false (sym (subst (λ u. rules.is_integer u ≡ true) at e))

  no_string : (t : Type') → t ≡ untyped_bool → rules.is_string t ≡ true → ⊥
  no_string t at e = true≢false (sym (subst (λ u. rules.is_string u ≡ true) at e))

  pub integer_value : (t : Type') → IsValueType t → rules.is_integer t ≡ true → is_integer_type (underlying t) ≡ true
  integer_value t (inl h) e = sound_integer w t h e
  integer_value t (inr h) e = absurd (no_integer t h e)

  pub string_value : (t : Type') → IsValueType t → rules.is_string t ≡ true → is_string_type (underlying t) ≡ true
  string_value t (inl h) e = sound_string w t h e
  string_value t (inr h) e = absurd (no_string t h e)

  unary_defined : (op : signs.UnaryOperator) (t : Type') → IsValueType t → is_operand op t ≡ true → is_unary (operator_of op) (underlying t) ≡ true
  unary_defined sign.Negation t h e = sound_bool t e
  unary_defined sign.Positive t h e = integer_value t h e
  unary_defined sign.Negative t h e = integer_value t h e
  unary_defined sign.Complement t h e = integer_value t h e

  abbrev unary_with : signs.UnaryOperator → Expr → Option Const → Verdict Expr
  unary_with op e o = elim o [
    | Some c ↦ constant_or_fault (expr_type e) (constants.unary (operator_of op) (int_kind (expr_type e)) c)
    | None ↦ Fine (typed.unary (expr_type e) (operator_of op) e)
  ]

  pub constant_of : (e : Expr) (c : Const) → IsSoundValue w g d e → constant_in e ≡ Some c → IsOperandType w (expr_type e) × IsConstantOf (expr_type e) c
  constant_of (constant t b) c h at = subst (λ a. IsOperandType w t × IsConstantOf t a) (some_same b c at) (value_constant w g d t b h)
  constant_of e c h at = absurd (some_none c (sym at))

  unary_by : (op : signs.UnaryOperator) (e : Expr) → IsSoundValue w g d e → is_operand op (expr_type e) ≡ true → (o : Option Const) → constant_in e ≡ o → Gives (IsSoundValue w g d) (unary_with op e o)
  unary_by op e h is (Some c) at =
      let one = constant_of e c h at in
      given_sound (expr_type e) (constants.unary (operator_of op) (int_kind (expr_type e)) c) one.0 (one_operand (expr_type e) (operator_of op) c one.1)
  unary_by op e h is None at =
      let one = other_value e h at in
      value_made (typed.unary (expr_type e) (operator_of op) e) (one.0, refl, unary_defined op (expr_type e) one.1 is) one.1 refl tt

  unary_if : (op : signs.UnaryOperator) (e : Expr) → IsSoundValue w g d e → (b : Bool) → is_operand op (expr_type e) ≡ b → Gives (IsSoundValue w g d) (unary_verdict op e)
  unary_if op e h false is = rw is tt
  unary_if op e h true is = rw is (unary_by op e h is (constant_in e) refl)

  pub unary_gives : (op : signs.UnaryOperator) (e : Expr) → IsSoundValue w g d e → Gives (IsSoundValue w g d) (unary_verdict op e)
  unary_gives op e h = unary_if op e h (is_operand op (expr_type e)) refl
