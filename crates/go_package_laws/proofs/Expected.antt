-- What is known of expressions, as the proofs of statements need it.
use Rattle.std.specs.Prelude.{◌≡◌, true, nat_le, ℕ, List, Some}
use Rattle.go_ast.specs.Trees as source
use Rattle.go_ast.specs.declared.expression.BinaryOperator.{BinaryOperator}
use Rattle.go_types.specs.declared.types.Basic.TheVariants as basics
use Rattle.go_types.specs.declared.types.Untyped.{Untyped}
use Rattle.go_types.specs.Types.{Type', basic}
use Rattle.go_types.specs.Relations.{identical}
use Rattle.go_types.specs.Sizes.{cells}
use Rattle.go_typed.specs.Trees.{Expr, expr_type}
use Rattle.go_meaning.specs.Meaning.{most_cells}
use Rattle.go_expr.specs.Known.{Known, Scope, Fine}
use Rattle.go_expr.specs.Rules.{assigned, default_type, defaulted, condition, value_due, binary_verdict}
use Rattle.go_expr.specs.Verdicts.{operand, verdict, type_verdict}
use Rattle.go_meaning_laws.specs.WellTyped.{Setting, IsWhole, IsExpr, IsCondition}
use Rattle.go_package_laws.proofs.Soundness.{Table, IsSoundType, HasSoundWay, IsTypedValue, IsSoundValue}
use Rattle.go_package_laws.proofs.SoundNames.{IsSoundKnown, IsSoundScope}
use Rattle.go_package_laws.proofs.Texts.{HasTexts, TypeHasTexts}

pub record Expected : Type 0 where
  pub identical_same : (w : Table) (t u : Type') → IsSoundType w t → IsSoundType w u → identical t u ≡ true → t ≡ u
  pub not_identical : (w : Table) (t : Type') (k : Untyped) → IsSoundType w t → identical t (basic (basics.Untyped k)) ≡ true → ⊥
  pub small_type : (w : Table) (t : Type') → IsSoundType w t → nat_le (cells t) most_cells ≡ true
  pub whole_type : (w : Table) (t : Type') → IsSoundType w t → IsWhole t
  pub sound_known : (w : Table) (g : Setting) (d : List ℕ) (s : Scope) (e : source.Expression) → IsSoundScope w g d s → HasTexts e → (k : Known) → verdict s e ≡ Fine k → IsSoundKnown w g d k
  pub sound_operand : (w : Table) (g : Setting) (d : List ℕ) (s : Scope) (e : source.Expression) → IsSoundScope w g d s → HasTexts e → (x : Expr) → operand (verdict s e) ≡ Some x → IsSoundValue w g d x
  pub sound_type : (w : Table) (g : Setting) (d : List ℕ) (s : Scope) (t : source.TypeExpr) → IsSoundScope w g d s → TypeHasTexts t → (u : Type') → type_verdict s t ≡ Fine u → IsSoundType w u
  pub sound_assigned : (w : Table) (g : Setting) (d : List ℕ) (t : Type') (e : Expr) → IsSoundType w t → IsSoundValue w g d e → (x : Expr) → assigned t e ≡ Fine x → IsExpr g d x × (expr_type x ≡ t) × HasSoundWay w x
  pub sound_defaulted : (w : Table) (g : Setting) (d : List ℕ) (e : Expr) → IsSoundValue w g d e → (x : Expr) → defaulted e ≡ Fine x → IsTypedValue w g d x × (expr_type x ≡ default_type (expr_type e))
  pub sound_condition : (w : Table) (g : Setting) (d : List ℕ) (e : Expr) → IsSoundValue w g d e → (x : Expr) → condition e ≡ Fine x → IsCondition g d x
  pub sound_binary : (w : Table) (g : Setting) (d : List ℕ) (op : BinaryOperator) (x y : Expr) → IsSoundValue w g d x → IsSoundValue w g d y → (z : Expr) → binary_verdict op x y ≡ Fine z → IsSoundValue w g d z
  pub sound_value_due : (w : Table) (g : Setting) (d : List ℕ) (k : Known) → IsSoundKnown w g d k → (x : Expr) → value_due k ≡ Fine x → IsSoundValue w g d x
