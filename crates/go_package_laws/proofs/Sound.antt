-- What the checker knows of expressions and types is sound, where it is so of the names that they use.
use Rattle.std.proofs.Common.{◌≡◌, ℕ, suc, ℤ, pos, Bool, true, false, List, [], ◌∷◌, map, Option, Some, None, refl, subst, inl, inr}
use Rattle.std.specs.Prelude.{bytes_eq, unwrap_or, option_map, if◌then◌else◌}
use Rattle.std.specs.Map.{lookup}
use Rattle.std.proofs.lemmas.Bool.{cases_Bool}
use Rattle.go_text.specs.declared.fault.FaultKind.TheVariants.{Undeclared, Unexported}
use Rattle.go_ast.specs.Trees.{TypeExpr, named as by_name, qualified, array, slice, struct, FieldDecls, no_fields, field, Expression, name, integer, rune, string, parenthesized, composite_lit, conversion, selector, index, cut, Bound, no_bound, bound, call, type_operand, unary, binary, ExpressionList, no_exprs, some_exprs, Elements, no_elements, element, Element, expression_element, value_element}
use Rattle.go_const.specs.declared.constant.Const.TheVariants.{Integer, Text}
use Rattle.go_const.specs.Constants.{represent, fits}
use Rattle.go_types.specs.declared.types.Basic.TheVariants as basics
use Rattle.go_types.specs.declared.types.Untyped.TheVariants as kinds
use Rattle.go_types.specs.Types.{Type', basic}
use Rattle.go_typed.specs.Trees.{Expr as Typed}
use Rattle.go_meaning_laws.specs.WellTyped.{Setting}
use Rattle.go_expr.specs.Known.{Names, type', Known, declared, package', results, printed, panicked, Verdict, Fine, Breaks, Passed, Scope, look_up_known, named}
use Rattle.go_expr.specs.Rules.{fine, checked, valued, type_due, array_verdict, slice_verdict, is_exported, declared_field, struct_of, value_due, unpackaged, selectable, callable, numeral, digits_number, literal, literal_of, Due, element_due, due_type, untyped_literal, field_verdict, selection_verdict, exported_by, index_verdict, cut_of, make_verdict, unmade, unprinted, binary_verdict, unary_verdict, converted, called}
use Rattle.go_expr.specs.Verdicts.{asked, both, asked_both, chained, qualified_known, operand, inside, subject, callee, key_text, is_make, is_name, verdict, bound_known, made_verdict, operand_list, elements, element_verdict, type_verdict, fields_known}
use Rattle.go_package_laws.proofs.Soundness.{Table, IsSoundType, IsSoundValue, AreSoundNames}
use Rattle.go_package_laws.proofs.SoundNames.{IsSoundKnown, IsSoundScope}
use Rattle.go_package_laws.proofs.Texts.{HasTexts, BoundHasTexts, HaveTexts, ElementsHaveTexts, ElementHasTexts, TypeHasTexts, FieldsHaveTexts}
use Rattle.go_package_laws.proofs.Constants.{IsConstantOf, Given}
use Rattle.go_package_laws.proofs.Assigned.{Gives}
use Rattle.go_package_laws.proofs.Operators.{converted_gives, given_sound, unary_gives}
use Rattle.go_package_laws.proofs.Binary.{checked_gives}
use Rattle.go_package_laws.proofs.Shifts.{binary_gives}
use Rattle.go_package_laws.proofs.Selections.{field_gives, index_gives}
use Rattle.go_package_laws.proofs.Literals.{Every, every_append, Has, IsSoundElement, IsSoundDue, literal_gives, untyped_gives, element_due_sound, due_type_has, type_due_gives, array_of_gives, slice_of_gives, IsSoundField, struct_of_gives, declared_fields}
use Rattle.go_package_laws.proofs.Calls.{valued_gives, value_due_gives, called_gives}
use Rattle.go_package_laws.proofs.Slices.{cut_gives, made_gives}

-- ---- rules over what is known

pub gives_by : {A : Type 0} (P : A → Type 0) (v : Verdict A) → ((x : A) → v ≡ Fine x → P x) → Gives P v
gives_by P (Fine x) h = h x refl
gives_by P (Breaks kind) h = tt
gives_by P Passed h = tt

pub gives_at : {A : Type 0} (P : A → Type 0) (v : Verdict A) (x : A) → Gives P v → v ≡ Fine x → P x
gives_at P v x h at = subst (Gives P) at h

pub has_at : {A : Type 0} (P : A → Type 0) (o : Option A) (x : A) → Has P o → o ≡ Some x → P x
has_at P o x h at = subst (Has P) at h

pub fine_has : {A : Type 0} (P : A → Type 0) (v : Verdict A) → Gives P v → Has P (fine v)
fine_has P (Fine x) h = h
fine_has P (Breaks kind) h = tt
fine_has P Passed h = tt

pub asked_gives : {A B : Type 0} (P : A → Type 0) (Q : B → Type 0) (rule : A → Verdict B) (o : Option A) → Has P o → ((x : A) → P x → Gives Q (rule x)) → Gives Q (asked rule o)
asked_gives P Q rule None h each = tt
asked_gives P Q rule (Some x) h each = each x h

both_has : {A B : Type 0} (P : A → Type 0) (Q : B → Type 0) (a : Option A) (b : Option B) → Has P a → Has Q b → Has (λ k. P k.0 × Q k.1) (both a b)
both_has P Q None b h k = tt
both_has P Q (Some x) None h k = tt
both_has P Q (Some x) (Some y) h k = (h, k)

pub asked_both_gives : {A B C : Type 0} (P : A → Type 0) (Q : B → Type 0) (R : C → Type 0) (rule : A → B → Verdict C) (a : Option A) (b : Option B) → Has P a → Has Q b
    → ((x : A) (y : B) → P x → Q y → Gives R (rule x y)) → Gives R (asked_both rule a b)
asked_both_gives P Q R rule a b h k each = asked_gives (λ k. P k.0 × Q k.1) R (λ k. rule k.0 k.1) (both a b) (both_has P Q a b h k) (λ x good. each x.0 x.1 good.0 good.1)

joined_has : {A : Type 0} (P : A → Type 0) (xs ys : Option (List A)) → Has (Every P) xs → Has (Every P) ys → Has (Every P) (chained xs ys)
joined_has P None ys h k = tt
joined_has P (Some xs) None h k = tt
joined_has P (Some xs) (Some ys) h k = every_append P xs ys h k

mapped_has : {A B : Type 0} (P : A → Type 0) (Q : B → Type 0) (f : A → B) (o : Option A) → Has P o → ((x : A) → P x → Q (f x)) → Has Q (option_map f o)
mapped_has P Q f None h each = tt
mapped_has P Q f (Some x) h each = each x h

module _ (w : Table) (g : Setting) (d : List ℕ) where
  -- ---- leaves

  number_given : (z : ℤ) → Given (IsConstantOf (basic (basics.Untyped kinds.Int))) (represent None z)
  number_given z = elim (cases_Bool (fits None z)) [ inl is ↦ rw is (basics.Untyped kinds.Int, refl, refl) | inr not_so ↦ rw not_so tt ]

  literal_sound : (text : List ℕ) → Gives (IsSoundValue w g d) (literal text)
  literal_sound text =
      given_sound w g d (basic (basics.Untyped kinds.Int)) (represent None (pos (digits_number (numeral text).0 (numeral text).1))) (inr (kinds.Int, refl))
      (number_given (pos (digits_number (numeral text).0 (numeral text).1)))

  unpackaged_gives : (k : Known) → IsSoundKnown w g d k → Gives (IsSoundKnown w g d) (unpackaged k)
  unpackaged_gives (declared k) h = h
  unpackaged_gives (package' names) h = tt
  unpackaged_gives (results ts s es) h = h
  unpackaged_gives (printed es) h = h
  unpackaged_gives (panicked e) h = h

  of_due : (k : Known) → IsSoundKnown w g d k → Gives (IsSoundKnown w g d) (valued (value_due k))
  of_due k h = valued_gives w g d (value_due k) (value_due_gives w g d k h)

  selectable_gives : (k : Known) → IsSoundKnown w g d k → Gives (IsSoundKnown w g d) (selectable k)
  selectable_gives (package' names) h = h
  selectable_gives (declared k) h = of_due (declared k) h
  selectable_gives (results ts s es) h = of_due (results ts s es) h
  selectable_gives (printed es) h = of_due (printed es) h
  selectable_gives (panicked e) h = of_due (panicked e) h

  callable_gives : (k : Known) → IsSoundKnown w g d k → Gives (IsSoundKnown w g d) (callable k)
  callable_gives (declared k) h = h
  callable_gives (package' names) h = of_due (package' names) h
  callable_gives (results ts s es) h = of_due (results ts s es) h
  callable_gives (printed es) h = of_due (printed es) h
  callable_gives (panicked e) h = of_due (panicked e) h

  export_gives : (names : Names) (x : List ℕ) → AreSoundNames w g d names → (b : Bool) → is_exported x ≡ b
      → Gives (IsSoundKnown w g d) (if b then unwrap_or (option_map named (lookup (bytes_eq x) names)) (Breaks Undeclared) else Breaks Unexported)
  export_gives names x h false is = tt
  export_gives names x h true is =
      elim (lookup (bytes_eq x) names) as (λ o. lookup (bytes_eq x) names ≡ o → Gives (IsSoundKnown w g d) (unwrap_or (option_map named o) (Breaks Undeclared))) [
        | None ↦ λ at. tt
        | Some None ↦ λ at. tt
        | Some (Some k) ↦ λ at. h x k at
      ] refl

  of_value : (path x : List ℕ) (k : Known) → IsSoundKnown w g d k → Gives (IsSoundKnown w g d) (valued (checked (field_verdict path x) (value_due k)))
  of_value path x k h =
      valued_gives w g d (checked (field_verdict path x) (value_due k))
      (checked_gives (IsSoundValue w g d) (IsSoundValue w g d) (field_verdict path x) (value_due k) (value_due_gives w g d k h) (λ e good. field_gives w g d path x e good))

  pub selected_gives : (path x : List ℕ) (k : Known) → IsSoundKnown w g d k → Gives (IsSoundKnown w g d) (selection_verdict path x k)
  selected_gives path x (package' names) h = export_gives names x h (is_exported x) refl
  selected_gives path x (declared k) h = of_value path x (declared k) h
  selected_gives path x (results ts s es) h = of_value path x (results ts s es) h
  selected_gives path x (printed es) h = of_value path x (printed es) h
  selected_gives path x (panicked e) h = of_value path x (panicked e) h

  exported_gives : (x : List ℕ) (k : Known) → IsSoundKnown w g d k → Gives (IsSoundKnown w g d) (exported_by x k)
  exported_gives x (package' names) h = export_gives names x h (is_exported x) refl
  exported_gives x (declared k) h = tt
  exported_gives x (results ts s es) h = tt
  exported_gives x (printed es) h = tt
  exported_gives x (panicked e) h = tt

  pub due_gives : (v : Verdict Known) → Gives (IsSoundKnown w g d) v → Gives (IsSoundValue w g d) (asked value_due (fine v))
  due_gives v h = asked_gives (IsSoundKnown w g d) (IsSoundValue w g d) value_due (fine v) (fine_has (IsSoundKnown w g d) v h) (value_due_gives w g d)

  pub operand_has : (v : Verdict Known) → Gives (IsSoundKnown w g d) v → Has (IsSoundValue w g d) (operand v)
  operand_has v h = fine_has (IsSoundValue w g d) (asked value_due (fine v)) (due_gives v h)

  callee_gives : (v : Verdict Known) → Gives (IsSoundKnown w g d) v → Gives (IsSoundKnown w g d) (callee v)
  callee_gives v h = asked_gives (IsSoundKnown w g d) (IsSoundKnown w g d) callable (fine v) (fine_has (IsSoundKnown w g d) v h) callable_gives

  inside_gives : (v : Verdict Known) → Gives (IsSoundKnown w g d) v → Gives (IsSoundKnown w g d) (inside v)
  inside_gives v h = asked_gives (IsSoundKnown w g d) (IsSoundKnown w g d) unpackaged (fine v) (fine_has (IsSoundKnown w g d) v h) unpackaged_gives

  subject_gives : (v : Verdict Known) → Gives (IsSoundKnown w g d) v → Gives (IsSoundKnown w g d) (subject v)
  subject_gives v h = asked_gives (IsSoundKnown w g d) (IsSoundKnown w g d) selectable (fine v) (fine_has (IsSoundKnown w g d) v h) selectable_gives

  found : (s : Scope) (x : List ℕ) → IsSoundScope w g d s → Gives (IsSoundKnown w g d) (look_up_known x s.names)
  found s x h = gives_by (IsSoundKnown w g d) (look_up_known x s.names) (h.1 x)

  type_found : (v : Verdict Known) → Gives (IsSoundKnown w g d) v → Gives (IsSoundType w) (asked type_due (fine v))
  type_found v h = asked_gives (IsSoundKnown w g d) (IsSoundType w) type_due (fine v) (fine_has (IsSoundKnown w g d) v h) (type_due_gives w g d)

  type_operand_gives : (v : Verdict Type') → Gives (IsSoundType w) v → Gives (IsSoundKnown w g d) (checked (λ t. Fine (declared (type' t))) v)
  type_operand_gives (Fine t) h = h
  type_operand_gives (Breaks kind) h = tt
  type_operand_gives Passed h = tt

  unmade_gives : (o : Option Known) (xs : Option (List Typed)) → Gives (IsSoundValue w g d) (asked_both unmade o xs)
  unmade_gives None xs = tt
  unmade_gives (Some k) None = tt
  unmade_gives (Some k) (Some xs) = tt

  -- ---- expressions and types

  mutual
    pub known_gives : (s : Scope) (e : Expression) → IsSoundScope w g d s → HasTexts e → Gives (IsSoundKnown w g d) (verdict s e)
    known_gives s (name p x) h t = found s x h
    known_gives s (integer p text) h t = valued_gives w g d (literal text) (literal_sound text)
    known_gives s (rune p z) h t = inl (kinds.Rune, Integer (pos z), refl, refl)
    known_gives s (string p bytes) h t = inl (kinds.String, Text bytes, refl, t)
    known_gives s (parenthesized p e) h t = inside_gives (verdict s e) (known_gives s e h t)
    known_gives s (composite_lit p u q es) h t =
        let of = type_gives s u h t.0 in
        let around = fine (type_verdict s u) in
        let whole = fine_has (IsSoundType w) (type_verdict s u) of in
        let rule = asked_both (literal_of s.path) around (elements s around 0 es) in
        valued_gives w g d rule (asked_both_gives (IsSoundType w) (Every (IsSoundElement w g d)) (IsSoundValue w g d) (literal_of s.path) around (elements s around 0 es) whole
        (elements_have s around 0 es h whole t.1) (λ x y good each. literal_gives w g d s.path x y good each))
    known_gives s (conversion p u e) h t =
        let of = fine_has (IsSoundType w) (type_verdict s u) (type_gives s u h t.0) in
        let from = operand_has (verdict s e) (known_gives s e h t.1) in
        valued_gives w g d (asked_both converted (fine (type_verdict s u)) (operand (verdict s e)))
        (asked_both_gives (IsSoundType w) (IsSoundValue w g d) (IsSoundValue w g d) converted (fine (type_verdict s u)) (operand (verdict s e)) of from (λ x y good also. converted_gives w g d x y good also))
    known_gives s (selector p e x) h t =
        let of = fine_has (IsSoundKnown w g d) (subject (verdict s e)) (subject_gives (verdict s e) (known_gives s e h t)) in
        asked_gives (IsSoundKnown w g d) (IsSoundKnown w g d) (selection_verdict s.path x.text) (fine (subject (verdict s e))) of (selected_gives s.path x.text)
    known_gives s (index p e i) h t =
        let of = operand_has (verdict s e) (known_gives s e h t.0) in
        let at = operand_has (verdict s i) (known_gives s i h t.1) in
        valued_gives w g d (asked_both index_verdict (operand (verdict s e)) (operand (verdict s i)))
        (asked_both_gives (IsSoundValue w g d) (IsSoundValue w g d) (IsSoundValue w g d) index_verdict (operand (verdict s e)) (operand (verdict s i)) of at (λ x y good also. index_gives w g d x y good also))
    known_gives s (cut p e a b) h t =
        let of = operand_has (verdict s e) (known_gives s e h t.0) in
        let bounds = both_has (Has (IsSoundValue w g d)) (Has (IsSoundValue w g d)) (bound_known s a) (bound_known s b) (bound_has s a h t.1) (bound_has s b h t.2) in
        let rule : Typed → Option Typed × Option Typed → Verdict Typed = λ e bounds. cut_of e bounds.0 bounds.1 in
        let between = both (bound_known s a) (bound_known s b) in
        valued_gives w g d (asked_both rule (operand (verdict s e)) between)
        (asked_both_gives (IsSoundValue w g d) (λ k. Has (IsSoundValue w g d) k.0 × Has (IsSoundValue w g d) k.1) (IsSoundValue w g d) rule (operand (verdict s e)) between of bounds (λ x k good also. cut_gives w g d x k.0 k.1 good also.0 also.1))
    known_gives s (call p f es) h t =
        let of = fine_has (IsSoundKnown w g d) (callee (verdict s f)) (callee_gives (verdict s f) (known_gives s f h t.0)) in
        elim (cases_Bool (is_make (fine (callee (verdict s f))))) [
          | inl make ↦ rw make (valued_gives w g d (made_verdict s es) (made_have s es h t.1))
          | inr other ↦ rw other (asked_both_gives (IsSoundKnown w g d) (Every (IsSoundValue w g d)) (IsSoundKnown w g d) called (fine (callee (verdict s f))) (operand_list s es) of (operands_have s es h t.1)
              (λ x y good each. called_gives w g d x y good each))
        ]
    known_gives s (type_operand p u) h t = type_operand_gives (type_verdict s u) (type_gives s u h t)
    known_gives s (unary p op e) h t =
        valued_gives w g d (asked (unary_verdict op) (operand (verdict s e)))
        (asked_gives (IsSoundValue w g d) (IsSoundValue w g d) (unary_verdict op) (operand (verdict s e)) (operand_has (verdict s e) (known_gives s e h t)) (unary_gives w g d op))
    known_gives s (binary p op a b) h t =
        let left = operand_has (verdict s a) (known_gives s a h t.0) in
        let right = operand_has (verdict s b) (known_gives s b h t.1) in
        valued_gives w g d (asked_both (binary_verdict op) (operand (verdict s a)) (operand (verdict s b)))
        (asked_both_gives (IsSoundValue w g d) (IsSoundValue w g d) (IsSoundValue w g d) (binary_verdict op) (operand (verdict s a)) (operand (verdict s b)) left right (λ x y good also. binary_gives w g d op x y good also))

    bound_has : (s : Scope) (b : Bound) → IsSoundScope w g d s → BoundHasTexts b → Has (Has (IsSoundValue w g d)) (bound_known s b)
    bound_has s no_bound h t = tt
    bound_has s (bound e) h t =
        mapped_has (IsSoundValue w g d) (Has (IsSoundValue w g d)) Some (operand (verdict s e)) (operand_has (verdict s e) (known_gives s e h t)) (λ x good. good)

    made_have : (s : Scope) (es : ExpressionList) → IsSoundScope w g d s → HaveTexts es → Gives (IsSoundValue w g d) (made_verdict s es)
    made_have s no_exprs h t = tt
    made_have s (some_exprs e es) h t =
        let due = asked type_due (fine (verdict s e)) in
        let of = fine_has (IsSoundType w) due (type_found (verdict s e) (known_gives s e h t.0)) in
        elim (cases_Bool (is_name e)) [
          | inl is ↦ rw is (asked_both_gives (IsSoundType w) (Every (IsSoundValue w g d)) (IsSoundValue w g d) make_verdict (fine due) (operand_list s es) of (operands_have s es h t.1) (λ x y good each. made_gives w g d x y good each))
          | inr other ↦ rw other (unmade_gives (fine (asked unprinted (fine (verdict s e)))) (operand_list s es))
        ]

    pub operands_have : (s : Scope) (es : ExpressionList) → IsSoundScope w g d s → HaveTexts es → Has (Every (IsSoundValue w g d)) (operand_list s es)
    operands_have s no_exprs h t = tt
    operands_have s (some_exprs e es) h t =
        joined_has (IsSoundValue w g d) (option_map (λ v. v ∷ []) (operand (verdict s e))) (operand_list s es)
        (mapped_has (IsSoundValue w g d) (Every (IsSoundValue w g d)) (λ v. v ∷ []) (operand (verdict s e)) (operand_has (verdict s e) (known_gives s e h t.0)) (λ x good. (good, tt)))
        (operands_have s es h t.1)

    elements_have : (s : Scope) (of : Option Type') (n : ℕ) (es : Elements) → IsSoundScope w g d s → Has (IsSoundType w) of → ElementsHaveTexts es → Has (Every (IsSoundElement w g d)) (elements s of n es)
    elements_have s of n no_elements h k t = tt
    elements_have s of n (element key v es) h k t =
        let due = element_due of n (key_text key) in
        let own = element_gives s due v h (element_due_sound w g d of n (key_text key) k) t.0 in
        joined_has (IsSoundElement w g d) _ (elements s of (suc n) es)
        (mapped_has (IsSoundValue w g d) (Every (IsSoundElement w g d)) _ (fine (element_verdict s due v)) (fine_has (IsSoundValue w g d) (element_verdict s due v) own) (λ x good. (good, tt)))
        (elements_have s of (suc n) es h k t.1)

    element_gives : (s : Scope) (due : Due) (v : Element) → IsSoundScope w g d s → IsSoundDue w g d due → ElementHasTexts v → Gives (IsSoundValue w g d) (element_verdict s due v)
    element_gives s due (expression_element e) h k t = due_gives (verdict s e) (known_gives s e h t)
    element_gives s due (value_element p es) h k t =
        let around = due_type due in
        asked_gives (Every (IsSoundElement w g d)) (IsSoundValue w g d) (untyped_literal s.path due) (elements s around 0 es)
        (elements_have s around 0 es h (due_type_has w g d due k) t) (λ x each. untyped_gives w g d s.path due x k each)

    pub type_gives : (s : Scope) (u : TypeExpr) → IsSoundScope w g d s → TypeHasTexts u → Gives (IsSoundType w) (type_verdict s u)
    type_gives s (by_name p x) h t = type_found (look_up_known x.text s.names) (found s x.text h)
    type_gives s (qualified p m n) h t =
        type_found (qualified_known s m n)
        (asked_gives (IsSoundKnown w g d) (IsSoundKnown w g d) (exported_by n.text) (fine (look_up_known m.text s.names)) (fine_has (IsSoundKnown w g d) (look_up_known m.text s.names) (found s m.text h)) (exported_gives n.text))
    type_gives s (array p e u) h t =
        let size = operand_has (verdict s e) (known_gives s e h t.0) in
        let of = fine_has (IsSoundType w) (type_verdict s u) (type_gives s u h t.1) in
        asked_both_gives (IsSoundValue w g d) (IsSoundType w) (IsSoundType w) array_verdict (operand (verdict s e)) (fine (type_verdict s u)) size of (λ x y good also. array_of_gives w g d x y also)
    type_gives s (slice p u) h t = asked_gives (IsSoundType w) (IsSoundType w) slice_verdict (fine (type_verdict s u)) (fine_has (IsSoundType w) (type_verdict s u) (type_gives s u h t)) (slice_of_gives w g d)
    type_gives s (struct p fs) h t = asked_gives (Every (IsSoundField w g d)) (IsSoundType w) struct_of (fields_known s fs) (fields_have s fs h t) (struct_of_gives w g d)

    fields_have : (s : Scope) (fs : FieldDecls) → IsSoundScope w g d s → FieldsHaveTexts fs → Has (Every (IsSoundField w g d)) (fields_known s fs)
    fields_have s no_fields h t = tt
    fields_have s (field names u fs) h t =
        joined_has (IsSoundField w g d) (option_map (λ k. map (declared_field s.path k) names) (fine (type_verdict s u))) (fields_known s fs)
        (mapped_has (IsSoundType w) (Every (IsSoundField w g d)) (λ k. map (declared_field s.path k) names) (fine (type_verdict s u)) (fine_has (IsSoundType w) (type_verdict s u) (type_gives s u h t.0))
        (λ x good. declared_fields w g d s.path x names h.0 t.2 good))
        (fields_have s fs h t.1)
