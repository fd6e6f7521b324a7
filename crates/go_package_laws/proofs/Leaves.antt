-- Forms of expressions and values, as they stand in statements, are sound.
use Rattle.std.proofs.Common.{◌≡◌, ℕ, Option, Some, None, List, refl, subst}
use Rattle.std.specs.Prelude.{option_map}
use Rattle.go_ast.specs.Trees as source
use Rattle.go_ast.specs.Trees.{TypeExpr}
use Rattle.go_types.specs.Types.{Type'}
use Rattle.go_typed.specs.Trees.{Expr}
use Rattle.go_meaning_laws.specs.WellTyped.{Setting}
use Rattle.go_expr.specs.Known.{Scope, Verdict, Fine}
use Rattle.go_expr.specs.Rules.{fine}
use Rattle.go_expr.specs.Verdicts.{type_verdict}
use Rattle.go_stmt.specs.Scopes.{StatementEnv, Context, scope_in}
use Rattle.go_stmt.specs.Statements.{value_at, values_at, written_at, condition_at}
use Rattle.go_package_laws.proofs.Soundness.{Table, IsSoundType, IsSoundValue}
use Rattle.go_package_laws.proofs.SoundNames.{IsSoundScope}
use Rattle.go_package_laws.proofs.Texts.{HasTexts, HaveTexts}
use Rattle.go_package_laws.proofs.BodyTexts.{WrittenHasTexts, MayHaveTexts}
use Rattle.go_package_laws.proofs.Expected.{Expected}
use Rattle.go_package_laws.proofs.Related.{grows_none, Sure, stays, sure_given, sure_seen}
use Rattle.go_package_laws.proofs.Values.{AreSoundValues, sound_values}
use Rattle.go_package_laws.proofs.Numbered.{Outside, scope_sound}

abbrev pub Anything : {A : Type 0} → List ℕ → A → Type 0
Anything d x = Unit {0}

pub fine_is : {A : Type 0} (v : Verdict A) (x : A) → fine v ≡ Some x → v ≡ Fine x
fine_is v x h = elim v as (λ v. fine v ≡ Some x → v ≡ Fine x) [ Fine y ↦ λ k. cc | _ ↦ λ k. cc ] h

module _ (x : Expected) (w : Table) (g : Setting) where
  pub value_sure : (c : Context) → Outside w g c → (e : source.Expression) → HasTexts e → Sure w g.locals stays (IsSoundValue w g) (value_at c e)
  value_sure c out e texts env = (grows_none env, λ d r lies none y is. (x.sound_operand w g d (scope_in c None env) e (scope_sound w g c out env d r None) texts y is, r))

  pub values_sure : (c : Context) → Outside w g c → (es : source.ExpressionList) → HaveTexts es → Sure w g.locals stays (AreSoundValues x w g) (values_at c es)
  values_sure c out es texts env = (grows_none env, λ d r lies none y is. (sound_values x w g d (scope_in c None env) (scope_sound w g c out env d r None) es texts y is, r))

  -- the type that is written, if one is
  abbrev pub SoundWritten : List ℕ → Option Type' → Type 0
  SoundWritten d None = Unit {0}
  SoundWritten d (Some t) = IsSoundType w t

  pub sound_written : (d : List ℕ) (s : Scope) → IsSoundScope w g d s → (t : Option TypeExpr) → WrittenHasTexts t → (env : StatementEnv) (u : Option Type') → (written_at s t env).known ≡ Some u → SoundWritten d u
  sound_written d s h None texts env u is = (let same : None ≡ u = cc in subst (SoundWritten d) same tt)
  sound_written d s h (Some t) texts env u is = elim (fine (type_verdict s t)) as (λ o. fine (type_verdict s t) ≡ o → option_map Some o ≡ Some u → SoundWritten d u) [
    | None ↦ λ at k. absurd cc
    | Some v ↦ λ at k. (let same : Some v ≡ u = cc in subst (SoundWritten d) same (x.sound_type w g d s t h texts v (fine_is (type_verdict s t) v at)))
  ] refl is

  abbrev pub SoundCondition : List ℕ → Option Expr → Type 0
  SoundCondition d None = Unit {0}
  SoundCondition d (Some e) = IsSoundValue w g d e

  pub condition_sure : (c : Context) → Outside w g c → (e : Option source.Expression) → MayHaveTexts e → Sure w g.locals stays SoundCondition (condition_at c e)
  condition_sure c out None texts = sure_given w g.locals SoundCondition None (λ d l. tt)
  condition_sure c out (Some e) texts = sure_seen w g.locals stays (IsSoundValue w g) stays SoundCondition Some (value_at c e) (λ d x h. (h, refl)) (value_sure c out e texts)
