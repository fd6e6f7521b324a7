-- Cases of a switch may be compared with its tag.
use Rattle.std.proofs.Common.{◌≡◌, ℕ, Bool, true, false, not, ◌&&◌, ◌||◌, Option, Some, None, List, [], ◌∷◌, map, refl, sym, ap, subst, ◌∙◌, inl, inr, true≢false}
use Rattle.std.specs.Prelude.{option_map, bytes_eq, ◌==◌}
use Rattle.std.specs.Option.{option_eq}
use Rattle.std.specs.List.{flat_map, filter_map}
use Rattle.std.proofs.lemmas.Bool.{cases_Bool}
use Rattle.std.proofs.lemmas.Bool.Decides.{Decides-eqb}
use Rattle.std.proofs.lemmas.Slice.Eq.{bytes_eq-Decides}
use Rattle.go_text.specs.declared.fault.FaultKind.TheVariants.{Mismatch, Range}
use Rattle.go_ast.specs.Trees as source
use Rattle.go_const.specs.declared.operator.BinaryOperator.TheVariants.{Comparison}
use Rattle.go_const.specs.declared.operator.ComparisonOperator.TheVariants.{Equal}
use Rattle.go_types.specs.declared.types.Basic.TheVariants as basics
use Rattle.go_types.specs.declared.types.Untyped.{Untyped}
use Rattle.go_types.specs.declared.types.Untyped.TheVariants as kinds
use Rattle.go_types.specs.Types.{Type', basic, array, slice, struct, named, Fields, no_fields, field}
use Rattle.go_types.specs.Texts.{basic_text}
use Rattle.go_types.specs.Relations.{underlying, identical, all_identical, is_literal, kind_fits, assignable}
use Rattle.go_typed.specs.Trees.{Expr, local, expr_type, pack_exprs}
use Rattle.go_meaning_laws.specs.WellTyped.{Setting, Suits, IsExpr, AreWellTypedExprs, exprs_types, AreCases}
use Rattle.go_expr.specs.Known.{Scope, Verdict, Fine, Breaks, Passed}
use Rattle.go_expr.specs.Rules.{fine, checked, wrong, fine_list, as_type, assigned, lies_in, takes_type, common, is_defined, operand_type}
use Rattle.go_expr.specs.Verdicts.{operand, operand_list, verdict, chained}
use Rattle.go_stmt.specs.Rules.{case_value}
use Rattle.go_package_laws.proofs.Soundness.{Table, IsSoundType, IsSoundValue}
use Rattle.go_package_laws.proofs.SoundNames.{IsSoundScope}
use Rattle.go_package_laws.proofs.Texts.{HaveTexts}
use Rattle.go_package_laws.proofs.Expected.{Expected}
use Rattle.go_package_laws.proofs.Values.{suits, sound_under, no_fit, each_fine, front_fine, checked_part, Asked, AllSoundValues}

-- ---- a type is identical to itself

text_same : (p : List ℕ) → bytes_eq p p ≡ true
text_same p = (bytes_eq-Decides p p).1 refl

owner_same : (o : Option (List ℕ)) → option_eq bytes_eq o o ≡ true
owner_same None = refl
owner_same (Some p) = text_same p

mutual
  identical_self : (t : Type') → identical t t ≡ true
  identical_self (basic b) = text_same (basic_text b)
  identical_self (array n t) = (let a : (n == n) ≡ true = (Decides-eqb n n).1 refl in rw (a, identical_self t) refl)
  identical_self (slice t) = identical_self t
  identical_self (struct fs) = all_self fs
  identical_self (named p x t) = rw (text_same p, text_same x) refl

  all_self : (fs : Fields) → all_identical fs fs ≡ true
  all_self no_fields = refl
  all_self (field p x t fs) = rw (owner_same p, text_same x, identical_self t, all_self fs) refl

assignable_self : (t : Type') → assignable t t ≡ true
assignable_self t = rw (identical_self t) refl

-- ---- where a type isn't left out

takes_typed : (w : Table) (u t : Type') → IsSoundType w t → takes_type u t ≡ assignable u t
takes_typed w (basic (basics.Untyped kinds.Int)) (basic (basics.Untyped kinds.Rune)) h = absurd (true≢false (sym h))
takes_typed w u t h = refl

typed_takes : (w : Table) (t u : Type') → IsSoundType w t → takes_type t u ≡ assignable t u
typed_takes w (basic (basics.Untyped kinds.Int)) (basic (basics.Untyped kinds.Rune)) h = absurd (true≢false (sym h))
typed_takes w t u h = refl

not_literal : (x : Expected) (w : Table) (t : Type') (k : Untyped) → IsSoundType w t → (same literal below : Bool) → identical t (basic (basics.Untyped k)) ≡ same → (is_literal t || false) ≡ literal → identical (underlying t) (basic (basics.Untyped k)) ≡ below
    → kind_fits t (basic (basics.Untyped k)) ≡ false → assignable t (basic (basics.Untyped k)) ≡ true → ⊥
not_literal x w t k h true literal below a b c d e = x.not_identical w t k h a
not_literal x w t k h false literal true a b c d e = x.not_identical w (underlying t) k (sound_under w t h) c
not_literal x w t k h false true false a b c d e = (let r : assignable t (basic (basics.Untyped k)) ≡ false = rw (a, b, c, d) refl in cc)
not_literal x w t k h false false false a b c d e = (let r : assignable t (basic (basics.Untyped k)) ≡ false = rw (a, b, d) refl in cc)

not_assignable : (x : Expected) (w : Table) (t : Type') (k : Untyped) → IsSoundType w t → assignable t (basic (basics.Untyped k)) ≡ true → ⊥
not_assignable x w t k h e = not_literal x w t k h (identical t (basic (basics.Untyped k))) (is_literal t || false) (identical (underlying t) (basic (basics.Untyped k))) refl refl refl (no_fit w t (basic (basics.Untyped k)) h) e

-- ---- what a value is compared as

compared_by : (t e : Expr) (v u : Type') (a b c : Bool) → common (expr_type t) (expr_type e) ≡ Some v → not (is_defined (Comparison Equal) v) ≡ a → lies_in v t ≡ b → lies_in v e ≡ c → operand_type (Comparison Equal) t e ≡ Fine u
    → (common (expr_type t) (expr_type e) ≡ Some u) × (lies_in u e ≡ true)
compared_by t e v u true b c at p q s h = absurd (let r : operand_type (Comparison Equal) t e ≡ Breaks Mismatch = rw (at, operand_type, p) refl in cc)
compared_by t e v u false false c at p q s h = absurd (let r : operand_type (Comparison Equal) t e ≡ Breaks Range = rw (at, operand_type, p, q) refl in cc)
compared_by t e v u false true false at p q s h = absurd (let r : operand_type (Comparison Equal) t e ≡ Breaks Range = rw (at, operand_type, p, q, s) refl in cc)
compared_by t e v u false true true at p q s h =
    let r : operand_type (Comparison Equal) t e ≡ Fine v = rw (at, operand_type, p, q, s) refl in
    let same : v ≡ u = cc in
    (at ∙ ap Some same, ap (λ z. lies_in z e) (sym same) ∙ s)

compared_as : (t e : Expr) (o : Option Type') (u : Type') → common (expr_type t) (expr_type e) ≡ o → operand_type (Comparison Equal) t e ≡ Fine u → (common (expr_type t) (expr_type e) ≡ Some u) × (lies_in u e ≡ true)
compared_as t e None u at h = absurd (let r : operand_type (Comparison Equal) t e ≡ Breaks Mismatch = rw (at, operand_type) refl in cc)
compared_as t e (Some v) u at h = compared_by t e v u (not (is_defined (Comparison Equal) v)) (lies_in v t) (lies_in v e) at refl refl refl h

assigned_as : (u : Type') (e : Expr) → assignable (expr_type e) u ≡ true → lies_in u e ≡ true → assigned u e ≡ Fine (as_type u e)
assigned_as u e h k = rw (h, k) refl

operand_asked : (t e : Expr) (o : Option Type') → common (expr_type t) (expr_type e) ≡ o → Asked (operand_type (Comparison Equal) t e)
operand_asked t e None at = rw (at, Asked) tt
operand_asked t e (Some v) at = elim (cases_Bool (not (is_defined (Comparison Equal) v))) [
  | inl unfit ↦ rw (at, Asked, unfit) tt
  | inr fit ↦ elim (cases_Bool (lies_in v t && lies_in v e)) [ inl is ↦ rw (at, Asked, fit, is) tt | inr not_so ↦ rw (at, Asked, fit, not_so) tt ]
]

checked_asked : {A B : Type 0} (f : A → B) (v : Verdict A) → Asked v → Asked (checked (λ x. Fine (f x)) v)
checked_asked f (Fine x) h = tt
checked_asked f (Breaks k) h = tt
checked_asked f Passed h = absurd h

case_asked : (t : Type') (e : Expr) → Asked (case_value t e)
case_asked t e = checked_asked (λ u. as_type u e) (operand_type (Comparison Equal) (local t 0) e) (operand_asked (local t 0) e (common t (expr_type e)) refl)

module _ (x : Expected) (w : Table) (g : Setting) where
  -- a typed value is assignable to typed ones alone
  typed_value : (d : List ℕ) (e : Expr) (t : Type') → IsSoundType w t → IsSoundValue w g d e → assignable t (expr_type e) ≡ true → IsSoundType w (expr_type e)
  typed_value d e t h (inl k) fit = absurd (not_assignable x w t k.0 h (subst (λ (z : Expr). assignable t (expr_type z) ≡ true) k.2 fit))
  typed_value d e t h (inr (inl k)) fit = k.1
  typed_value d e t h (inr (inr k)) fit = absurd (not_assignable x w t kinds.Bool h (subst (λ (u : Type'). assignable t u ≡ true) k.1 fit))

  case_by : (d : List ℕ) (t : Type') (e : Expr) (u : Type') (a b : Bool) → IsSoundType w t → IsSoundValue w g d e → takes_type (expr_type e) t ≡ a → takes_type t (expr_type e) ≡ b → common t (expr_type e) ≡ Some u → lies_in u e ≡ true
      → IsExpr g d (as_type u e) × Suits (expr_type (as_type u e)) t
  case_by d t e u true b h k at is c lies =
      let r : common t (expr_type e) ≡ Some t = rw at refl in
      let same : t ≡ u = cc in
      let fit : assignable (expr_type e) u ≡ true = ap (assignable (expr_type e)) (sym same) ∙ sym (takes_typed w (expr_type e) t h) ∙ at in
      let made = x.sound_assigned w g d u e (subst (IsSoundType w) same h) k (as_type u e) (assigned_as u e fit lies) in
      (made.0, ap underlying (made.1 ∙ sym same))
  case_by d t e u false false h k at is c lies = absurd (let r : common t (expr_type e) ≡ None = rw (at, is) refl in cc)
  case_by d t e u false true h k at is c lies =
      let r : common t (expr_type e) ≡ Some (expr_type e) = rw (at, is) refl in
      let same : expr_type e ≡ u = cc in
      let fit : assignable t (expr_type e) ≡ true = sym (typed_takes w t (expr_type e) h) ∙ is in
      let sound = typed_value d e t h k fit in
      let itself : assignable (expr_type e) u ≡ true = ap (assignable (expr_type e)) (sym same) ∙ assignable_self (expr_type e) in
      let made = x.sound_assigned w g d u e (subst (IsSoundType w) same sound) k (as_type u e) (assigned_as u e itself lies) in
      (made.0, ap underlying (made.1 ∙ sym same) ∙ sym (suits x w t (expr_type e) h sound fit))

  pub sound_case : (d : List ℕ) (t : Type') (e y : Expr) → IsSoundType w t → IsSoundValue w g d e → case_value t e ≡ Fine y → IsExpr g d y × Suits (expr_type y) t
  sound_case d t e y h k is =
      let part = checked_part (λ u. Fine (as_type u e)) (operand_type (Comparison Equal) (local t 0) e) y is in
      let taken = compared_as (local t 0) e (common t (expr_type e)) part.0 refl part.1 in
      let made = case_by d t e part.0 (takes_type (expr_type e) t) (takes_type t (expr_type e)) h k refl refl taken.0 taken.1 in
      let same : as_type part.0 e ≡ y = (let q : Fine (as_type part.0 e) ≡ Fine y = part.2 in cc) in
      subst (λ (z : Expr). IsExpr g d z × Suits (expr_type z) t) same made

  all_cases : (d : List ℕ) (t : Type') (es : List Expr) → IsSoundType w t → AllSoundValues x w g d es → flat_map wrong (map (case_value t) es) ≡ []
      → AreWellTypedExprs g d (pack_exprs (filter_map fine (map (case_value t) es))) × AreCases t (exprs_types (pack_exprs (filter_map fine (map (case_value t) es))))
  all_cases d t [] h k none = (tt, tt)
  all_cases d t (e ∷ es) h k none =
      let front = front_fine (case_value t e) (map (case_value t) es) (case_asked t e) none in
      let rest = all_cases d t es h k.1 front.2 in
      let one = sound_case d t e front.0 h k.0 front.1 in
      subst (λ (l : List Expr). AreWellTypedExprs g d (pack_exprs l) × AreCases t (exprs_types (pack_exprs l))) (sym front.3) ((one.0, rest.0), (one.1, rest.1))

  pub sound_cases : (d : List ℕ) (t : Type') (es ys : List Expr) → IsSoundType w t → AllSoundValues x w g d es → fine_list [] (map (case_value t) es) ≡ Fine ys → AreWellTypedExprs g d (pack_exprs ys) × AreCases t (exprs_types (pack_exprs ys))
  sound_cases d t es ys h k is =
      let made = each_fine (map (case_value t) es) ys is in
      subst (λ (l : List Expr). AreWellTypedExprs g d (pack_exprs l) × AreCases t (exprs_types (pack_exprs l))) made.1 (all_cases d t es h k made.0)

  -- ---- the values of a case

  joined_sound : (d : List ℕ) (o : Option Expr) (rest : Option (List Expr)) (ys : List Expr) → ((e : Expr) → o ≡ Some e → IsSoundValue w g d e) → ((es : List Expr) → rest ≡ Some es → AllSoundValues x w g d es)
      → chained (option_map (λ v. v ∷ []) o) rest ≡ Some ys → AllSoundValues x w g d ys
  joined_sound d None rest ys h k is = absurd cc
  joined_sound d (Some e) None ys h k is = absurd cc
  joined_sound d (Some e) (Some es) ys h k is = (let same : e ∷ es ≡ ys = cc in subst (AllSoundValues x w g d) same (h e refl, k es refl))

  pub sound_operands : (d : List ℕ) (s : Scope) → IsSoundScope w g d s → (es : source.ExpressionList) → HaveTexts es → (ys : List Expr) → operand_list s es ≡ Some ys → AllSoundValues x w g d ys
  sound_operands d s h source.no_exprs texts ys is = (let same : [] ≡ ys = cc in subst (AllSoundValues x w g d) same tt)
  sound_operands d s h (source.some_exprs e es) texts ys is =
      joined_sound d (operand (verdict s e)) (operand_list s es) ys (λ y at. x.sound_operand w g d s e h texts.0 y at) (λ zs at. sound_operands d s h es texts.1 zs at) is
