-- What the checker knows of an expression or a type is sound, said by what a rule gives.
use Rattle.std.proofs.Common.{◌≡◌, ℕ, List, Some, subst, sym}
use Rattle.go_ast.specs.declared.expression.UnaryOperator as signs
use Rattle.go_ast.specs.declared.expression.BinaryOperator as source
use Rattle.go_ast.specs.Trees.{Expression, TypeExpr}
use Rattle.go_types.specs.Types.{Type'}
use Rattle.go_typed.specs.Trees.{Expr as Typed, expr_type}
use Rattle.go_meaning_laws.specs.WellTyped.{Setting, IsExpr, IsCondition}
use Rattle.go_expr.specs.Known.{Known, Fine, Scope}
use Rattle.go_expr.specs.Rules.{assigned, default_type, defaulted, condition, value_due, converted, unary_verdict, binary_verdict, called}
use Rattle.go_expr.specs.Verdicts.{operand, verdict, type_verdict}
use Rattle.go_package_laws.proofs.Soundness.{Table, IsSoundType, HasSoundWay, IsTypedValue, IsSoundValue}
use Rattle.go_package_laws.proofs.SoundNames.{IsSoundKnown, IsSoundScope}
use Rattle.go_package_laws.proofs.Texts.{HasTexts, TypeHasTexts}
use Rattle.go_package_laws.proofs.Assigned.{GoodAs, value_type, default_sound, assigned_gives, defaulted_gives}
use Rattle.go_package_laws.proofs.Operators.{condition_gives, converted_gives, unary_gives}
use Rattle.go_package_laws.proofs.Shifts.{binary_gives}
use Rattle.go_package_laws.proofs.Literals.{Every}
use Rattle.go_package_laws.proofs.Calls.{value_due_gives, called_gives}
use Rattle.go_package_laws.proofs.Sound.{gives_at, has_at, operand_has, known_gives, type_gives}

module _ (w : Table) (g : Setting) (d : List ℕ) where
  pub sound_known : (s : Scope) (e : Expression) → IsSoundScope w g d s → HasTexts e → (k : Known) → verdict s e ≡ Fine k → IsSoundKnown w g d k
  sound_known s e h t k at = gives_at (IsSoundKnown w g d) (verdict s e) k (known_gives w g d s e h t) at

  pub sound_operand : (s : Scope) (e : Expression) → IsSoundScope w g d s → HasTexts e → (x : Typed) → operand (verdict s e) ≡ Some x → IsSoundValue w g d x
  sound_operand s e h t x at = has_at (IsSoundValue w g d) (operand (verdict s e)) x (operand_has w g d (verdict s e) (known_gives w g d s e h t)) at

  pub sound_type : (s : Scope) (u : TypeExpr) → IsSoundScope w g d s → TypeHasTexts u → (t : Type') → type_verdict s u ≡ Fine t → IsSoundType w t
  sound_type s u h t v at = gives_at (IsSoundType w) (type_verdict s u) v (type_gives w g d s u h t) at

  pub sound_value_due : (k : Known) → IsSoundKnown w g d k → (x : Typed) → value_due k ≡ Fine x → IsSoundValue w g d x
  sound_value_due k h x at = gives_at (IsSoundValue w g d) (value_due k) x (value_due_gives w g d k h) at

  pub sound_assigned : (t : Type') (e : Typed) → IsSoundType w t → IsSoundValue w g d e → (x : Typed) → assigned t e ≡ Fine x → IsExpr g d x × (expr_type x ≡ t) × HasSoundWay w x
  sound_assigned t e h k x at = gives_at (GoodAs w g d t) (assigned t e) x (assigned_gives w g d t e h k) at

  pub sound_defaulted : (e : Typed) → IsSoundValue w g d e → (x : Typed) → defaulted e ≡ Fine x → IsTypedValue w g d x × (expr_type x ≡ default_type (expr_type e))
  sound_defaulted e h x at =
      let one = gives_at (GoodAs w g d (default_type (expr_type e))) (defaulted e) x (defaulted_gives w g d e h) at in
      ((one.0, subst (IsSoundType w) (sym one.1) (default_sound w g d (expr_type e) (value_type w g d e h)), one.2), one.1)

  pub sound_condition : (e : Typed) → IsSoundValue w g d e → (x : Typed) → condition e ≡ Fine x → IsCondition g d x
  sound_condition e h x at = gives_at (IsCondition g d) (condition e) x (condition_gives w g d e h) at

  pub sound_unary : (op : signs.UnaryOperator) (e : Typed) → IsSoundValue w g d e → (x : Typed) → unary_verdict op e ≡ Fine x → IsSoundValue w g d x
  sound_unary op e h x at = gives_at (IsSoundValue w g d) (unary_verdict op e) x (unary_gives w g d op e h) at

  pub sound_binary : (op : source.BinaryOperator) (a b : Typed) → IsSoundValue w g d a → IsSoundValue w g d b → (x : Typed) → binary_verdict op a b ≡ Fine x → IsSoundValue w g d x
  sound_binary op a b h k x at = gives_at (IsSoundValue w g d) (binary_verdict op a b) x (binary_gives w g d op a b h k) at

  pub sound_converted : (t : Type') (e : Typed) → IsSoundType w t → IsSoundValue w g d e → (x : Typed) → converted t e ≡ Fine x → IsSoundValue w g d x
  sound_converted t e h k x at = gives_at (IsSoundValue w g d) (converted t e) x (converted_gives w g d t e h k) at

  pub sound_called : (k : Known) (xs : List Typed) → IsSoundKnown w g d k → Every (IsSoundValue w g d) xs → (m : Known) → called k xs ≡ Fine m → IsSoundKnown w g d m
  sound_called k xs h j m at = gives_at (IsSoundKnown w g d) (called k xs) m (called_gives w g d k xs h j) at
