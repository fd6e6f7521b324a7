-- Shifts of sound values are sound, and with them all binary operators.
use Rattle.std.proofs.Common.{◌≡◌, ℕ, not, Bool, true, false, ◌&&◌, List, Option, Some, None, refl, ap, sym, ◌∙◌, subst, true≢false, ◌⊎◌, inl, inr}
use Rattle.std.specs.Prelude.{if◌then◌else◌, is_some}
use Rattle.std.proofs.lemmas.Bool.{and_parts}
use Rattle.go_text.specs.declared.fault.FaultKind.TheVariants.{Range}
use Rattle.go_ast.specs.declared.expression.BinaryOperator as source
use Rattle.go_ast.specs.declared.expression.BinaryOperator.TheVariants as operators
use Rattle.go_const.specs.declared.constant.Const.{Const}
use Rattle.go_const.specs.declared.operator.BinaryOperator.TheVariants.{Arithmetic, Comparison, LogicalAnd, LogicalOr}
use Rattle.go_const.specs.declared.operator.ArithmeticOperator.TheVariants.{Add, Subtract, Multiply, Divide, Remainder, BitAnd, BitOr, BitXor, AndNot}
use Rattle.go_const.specs.declared.operator.ComparisonOperator.TheVariants.{Equal, NotEqual, Less, LessOrEqual, Greater, GreaterOrEqual}
use Rattle.go_const.specs.declared.operator.ShiftOperator.{ShiftOperator}
use Rattle.go_const.specs.declared.operator.ShiftOperator.TheVariants.{Left, Right}
use Rattle.go_const.specs.Constants as constants
use Rattle.go_types.specs.declared.types.Basic.TheVariants as basics
use Rattle.go_types.specs.declared.types.Untyped.{Untyped}
use Rattle.go_types.specs.declared.types.Untyped.TheVariants as kinds
use Rattle.go_types.specs.Types.{Type', basic}
use Rattle.go_types.specs.Relations.{underlying, assignable}
use Rattle.go_typed.specs.declared.expression.Operator.TheVariants as nodes
use Rattle.go_typed.specs.Trees as typed
use Rattle.go_typed.specs.Trees.{Expr, expr_type}
use Rattle.go_meaning_laws.specs.WellTyped.{Setting, is_integer_type, IsExpr}
use Rattle.go_expr.specs.Known.{Fine, Breaks}
use Rattle.go_expr.specs.Rules as rules
use Rattle.go_expr.specs.Rules.{constant_in, int_kind, is_untyped, lies_in, as_type, uint, counted_by, shift_of, shift_verdict, binary_verdict}
use Rattle.go_package_laws.proofs.Soundness.{Table, IsSoundType, HasSoundWay, IsSoundValue}
use Rattle.go_package_laws.proofs.Types.{untyped_bool}
use Rattle.go_package_laws.proofs.Constants.{shift_operands}
use Rattle.go_package_laws.proofs.Assigned.{Gives, some_none, GoodAs, good_as}
use Rattle.go_package_laws.proofs.Defaults.{sound_integer, sound_typed}
use Rattle.go_package_laws.proofs.Operators.{given_sound, constant_of}
use Rattle.go_package_laws.proofs.Binary.{combined_gives}

module _ (w : Table) (g : Setting) (d : List ℕ) where
  no_integer : (t : Type') → t ≡ untyped_bool → rules.is_integer t ≡ true → ⊥
  no_integer t at e = true≢false (sym (subst (λ u. rules.is_integer u ≡ true) at e))

  -- an integer that has a type
  abbrev IsInteger : Expr → Type 0
  IsInteger e = IsExpr g d e × IsSoundType w (expr_type e) × (is_integer_type (underlying (expr_type e)) ≡ true) × HasSoundWay w e

  typed_integer : (e : Expr) → IsSoundValue w g d e → rules.is_integer (expr_type e) ≡ true → is_untyped (expr_type e) ≡ false → IsInteger e
  typed_integer e (inl h) is not_so = absurd (true≢false (sym (ap is_untyped (ap expr_type h.2)) ∙ not_so))
  typed_integer e (inr (inl h)) is not_so = (h.0, h.1, sound_integer w (expr_type e) h.1 is, h.2)
  typed_integer e (inr (inr h)) is not_so = absurd (no_integer (expr_type e) h.1 is)

  -- ---- the count

  abbrev IsCount : Expr → Type 0
  IsCount e = IsExpr g d e × (is_integer_type (underlying (expr_type e)) ≡ true)

  integer_assignable : (k : Untyped) → rules.is_integer (basic (basics.Untyped k)) ≡ true → assignable (basic (basics.Untyped k)) uint ≡ true
  integer_assignable kinds.Int e = refl
  integer_assignable kinds.Rune e = refl
  integer_assignable k e = absurd (true≢false (sym e))

  as_count : (e : Expr) → GoodAs w g d uint e → IsCount e
  as_count e h = (h.0, subst (λ u. is_integer_type (underlying u) ≡ true) (sym h.1) refl)

  untyped_count : (e : Expr) → IsSoundValue w g d e → rules.is_integer (expr_type e) ≡ true → lies_in uint e ≡ true → is_untyped (expr_type e) ≡ true → IsCount (as_type uint e)
  untyped_count e (inl h) is lies un =
      let at : expr_type e ≡ basic (basics.Untyped h.0) = ap expr_type h.2 in
      let fit = integer_assignable h.0 (subst (λ u. rules.is_integer u ≡ true) at is) in
      as_count (as_type uint e) (good_as w g d uint e refl (inl h) (subst (λ u. assignable u uint ≡ true) (sym at) fit) lies)
  untyped_count e (inr (inl h)) is lies un = absurd (true≢false (sym un ∙ sound_typed w (expr_type e) h.1))
  untyped_count e (inr (inr h)) is lies un = absurd (no_integer (expr_type e) h.1 is)

  count_by : (e : Expr) → IsSoundValue w g d e → rules.is_integer (expr_type e) ≡ true → lies_in uint e ≡ true → (b : Bool) → is_untyped (expr_type e) ≡ b
      → IsCount (if b then as_type uint e else e)
  count_by e h is lies true un = untyped_count e h is lies un
  count_by e h is lies false un = (let one = typed_integer e h is un in (one.0, one.2))

  -- ---- the shift

  made : (op : ShiftOperator) (x y : Expr) → IsInteger x → IsCount y → IsSoundValue w g d (typed.binary (expr_type x) (nodes.Shift op) x y)
  made op x y h k = inr (inl ((h.0, k.0, (refl, h.2, k.1)), h.1, h.3))

  within : (op : ShiftOperator) (x y : Expr) → IsInteger x → IsSoundValue w g d y → rules.is_integer (expr_type y) ≡ true → (b : Bool) → lies_in uint y ≡ b
      → Gives (IsSoundValue w g d) (if b then Fine (typed.binary (expr_type x) (nodes.Shift op) x (counted_by y)) else Breaks Range)
  within op x y h k is true lies = made op x (counted_by y) h (count_by y k is lies (is_untyped (expr_type y)) refl)
  within op x y h k is false lies = tt

  -- what isn't constant has a type, and so has what is shifted by such a count
  has_type : (x : Expr) → IsSoundValue w g d x → rules.is_integer (expr_type x) ≡ true → (constant_in x ≡ None) ⊎ (is_untyped (expr_type x) ≡ false) → IsInteger x
  has_type x (inl h) is (inl none) = absurd (some_none h.1 (sym (ap constant_in h.2) ∙ none))
  has_type x (inl h) is (inr un) = typed_integer x (inl h) is un
  has_type x (inr (inl h)) is one = (h.0, h.1, sound_integer w (expr_type x) h.1 is, h.2)
  has_type x (inr (inr h)) is one = absurd (no_integer (expr_type x) h.1 is)

  counted : (b : Bool) (o : Option Const) → o ≡ None → (b && not (is_some o)) ≡ false → b ≡ false
  counted false o at h = refl
  counted true o at h = absurd (true≢false (sym (ap (λ (p : Option Const). not (is_some p)) at) ∙ h))

  shift_by : (op : ShiftOperator) (x y : Expr) → IsSoundValue w g d x → IsSoundValue w g d y → rules.is_integer (expr_type x) ≡ true → rules.is_integer (expr_type y) ≡ true
      → (is_untyped (expr_type x) && not (is_some (constant_in y))) ≡ false → (c e : Option Const) → constant_in x ≡ c → constant_in y ≡ e → Gives (IsSoundValue w g d) (shift_of op x y c e)
  shift_by op x y h k is also sure (Some c) (Some e) at to =
      let one = constant_of w g d x c h at in
      given_sound w g d (expr_type x) (constants.shift op (int_kind (expr_type x)) c e) one.0 (shift_operands (expr_type x) op c e one.1)
  shift_by op x y h k is also sure None e at to = within op x y (has_type x h is (inl at)) k also (lies_in uint y) refl
  shift_by op x y h k is also sure (Some c) None at to =
      within op x y (has_type x h is (inr (counted (is_untyped (expr_type x)) (constant_in y) to sure))) k also (lies_in uint y) refl

  shifted_if : (op : ShiftOperator) (x y : Expr) → IsSoundValue w g d x → IsSoundValue w g d y → (a b : Bool) → (is_untyped (expr_type x) && not (is_some (constant_in y))) ≡ a
      → (rules.is_integer (expr_type x) && rules.is_integer (expr_type y)) ≡ b → Gives (IsSoundValue w g d) (shift_verdict op x y)
  shifted_if op x y h k true b p q = rw (p, Gives) tt
  shifted_if op x y h k false false p q = rw (p, Gives, q) tt
  shifted_if op x y h k false true p q = (
      let both = and_parts (rules.is_integer (expr_type x)) (rules.is_integer (expr_type y)) q in
      rw (p, Gives, q) (shift_by op x y h k both.0 both.1 p (constant_in x) (constant_in y) refl refl)
      )

  shifted_gives : (op : ShiftOperator) (x y : Expr) → IsSoundValue w g d x → IsSoundValue w g d y → Gives (IsSoundValue w g d) (shift_verdict op x y)
  shifted_gives op x y h k = shifted_if op x y h k (is_untyped (expr_type x) && not (is_some (constant_in y))) (rules.is_integer (expr_type x) && rules.is_integer (expr_type y)) refl refl

  pub binary_gives : (op : source.BinaryOperator) (x y : Expr) → IsSoundValue w g d x → IsSoundValue w g d y → Gives (IsSoundValue w g d) (binary_verdict op x y)
  binary_gives operators.Multiply x y h k = combined_gives w g d (Arithmetic Multiply) x y h k
  binary_gives operators.Divide x y h k = combined_gives w g d (Arithmetic Divide) x y h k
  binary_gives operators.Remainder x y h k = combined_gives w g d (Arithmetic Remainder) x y h k
  binary_gives operators.ShiftLeft x y h k = shifted_gives Left x y h k
  binary_gives operators.ShiftRight x y h k = shifted_gives Right x y h k
  binary_gives operators.BitAnd x y h k = combined_gives w g d (Arithmetic BitAnd) x y h k
  binary_gives operators.AndNot x y h k = combined_gives w g d (Arithmetic AndNot) x y h k
  binary_gives operators.Add x y h k = combined_gives w g d (Arithmetic Add) x y h k
  binary_gives operators.Subtract x y h k = combined_gives w g d (Arithmetic Subtract) x y h k
  binary_gives operators.BitOr x y h k = combined_gives w g d (Arithmetic BitOr) x y h k
  binary_gives operators.BitXor x y h k = combined_gives w g d (Arithmetic BitXor) x y h k
  binary_gives operators.Equal x y h k = combined_gives w g d (Comparison Equal) x y h k
  binary_gives operators.NotEqual x y h k = combined_gives w g d (Comparison NotEqual) x y h k
  binary_gives operators.Less x y h k = combined_gives w g d (Comparison Less) x y h k
  binary_gives operators.LessOrEqual x y h k = combined_gives w g d (Comparison LessOrEqual) x y h k
  binary_gives operators.Greater x y h k = combined_gives w g d (Comparison Greater) x y h k
  binary_gives operators.GreaterOrEqual x y h k = combined_gives w g d (Comparison GreaterOrEqual) x y h k
  binary_gives operators.LogicalAnd x y h k = combined_gives w g d LogicalAnd x y h k
  binary_gives operators.LogicalOr x y h k = combined_gives w g d LogicalOr x y h k
