-- What is known has no fault.
use Rattle.std.proofs.Common.{◌≡◌, ◌≢◌, ◌⊎◌, inl, inr, ℕ, suc, true, false, Option, Some, None, List, [], ◌∷◌, ◌++◌, refl, ap, ◌∙◌}
use Rattle.std.specs.Prelude.{option_map, map, if◌then◌else◌}
use Rattle.std.proofs.lemmas.Bool.{cases_Bool}
use Rattle.go_text.specs.declared.place.Place.{Place}
use Rattle.go_text.specs.declared.fault.FaultKind.{FaultKind}
use Rattle.go_ast.specs.Trees.{TypeExpr, Name, named, qualified, array, slice, struct, FieldDecls, no_fields, field, Expression, name, integer, rune, string, parenthesized, composite_lit, conversion, selector, index, cut, Bound, no_bound, bound, call, type_operand, unary, binary, ExpressionList, no_exprs, some_exprs, Elements, no_elements, element, Element, expression_element, value_element}
use Rattle.go_expr.specs.Known.{type', package', declared, Known, Verdict, Fine, Breaks, Passed, Scope, look_up_known}
use Rattle.go_types.specs.Types.{Type'}
use Rattle.go_typed.specs.Trees.{Expr as Typed}
use Rattle.go_expr.specs.Rules.{fine, checked, valued, type_due, array_verdict, slice_verdict, declared_field, struct_of, value_due, unpackaged, selectable, callable, literal, literal_of, Due, element_due, due_type, untyped_literal, selection_verdict, field_verdict, exported_by, packaged, index_verdict, cut_of, make_verdict, unmade, unprinted, binary_verdict, unary_verdict, converted, called}
use Rattle.go_expr.specs.Verdicts.{asked, both, asked_both, chained, qualified_known, operand, inside, subject, callee, key_text, is_make, is_name, verdict, bound_known, made_verdict, operand_list, elements, element_verdict, type_verdict, fields_known, broken, bare_place, part_broken, operand_broken, package_broken, qualifier_broken, struct_place, faults, bound_faults, made_faults, call_faults, operands_faults, elements_faults, element_faults, type_faults, fields_faults}

abbrev IsKnown : {A : Type 0} → Option A → Type 0
IsKnown {A} o = (x : A) × (o ≡ Some x)

own : {A : Type 0} (p : Place) (v : Verdict A) → IsKnown (fine v) → broken p v ≡ []
own p (Fine x) k = refl
own p (Breaks kind) k = cc
own p Passed k = cc

part : {A B : Type 0} (rule : A → Verdict B) (o : Option A) → IsKnown (fine (asked rule o)) → IsKnown o
part rule None k = cc
part rule (Some x) k = (x, refl)

plain : (v : Verdict Typed) → IsKnown (fine (valued v)) → IsKnown (fine v)
plain (Fine e) k = (e, refl)
plain (Breaks kind) k = cc
plain Passed k = cc

parts : {A B : Type 0} (a : Option A) (b : Option B) → IsKnown (both a b) → IsKnown a × IsKnown b
parts None b k = cc
parts (Some x) None k = cc
parts (Some x) (Some y) k = ((x, refl), (y, refl))

two : {A B C : Type 0} (rule : A → B → Verdict C) (a : Option A) (b : Option B) → IsKnown (fine (asked_both rule a b)) → IsKnown a × IsKnown b
two rule a b k = parts a b (part (λ k. rule k.0 k.1) (both a b) k)

joined_parts : {A : Type 0} (xs ys : Option (List A)) → IsKnown (chained xs ys) → IsKnown xs × IsKnown ys
joined_parts None ys k = cc
joined_parts (Some xs) None k = cc
joined_parts (Some xs) (Some ys) k = ((xs, refl), (ys, refl))

mapped : {A B : Type 0} (f : A → B) (o : Option A) → IsKnown (option_map f o) → IsKnown o
mapped f None k = cc
mapped f (Some x) k = (x, refl)

none : (xs ys : List (Place × FaultKind)) → xs ≡ [] → ys ≡ [] → xs ++ ys ≡ []
none xs ys e f = ap (λ l. l ++ ys) e ∙ f

none_of_three : (xs ys zs : List (Place × FaultKind)) → xs ≡ [] → ys ≡ [] → zs ≡ [] → xs ++ ys ++ zs ≡ []
none_of_three xs ys zs e f g = none (xs ++ ys) zs (none xs ys e f) g

none_of_four : (ws xs ys zs : List (Place × FaultKind)) → ws ≡ [] → xs ≡ [] → ys ≡ [] → zs ≡ [] → ws ++ xs ++ ys ++ zs ≡ []
none_of_four ws xs ys zs d e f g = none (ws ++ xs ++ ys) zs (none_of_three ws xs ys d e f) g

none_of_five : (vs ws xs ys zs : List (Place × FaultKind)) → vs ≡ [] → ws ≡ [] → xs ≡ [] → ys ≡ [] → zs ≡ [] → vs ++ ws ++ xs ++ ys ++ zs ≡ []
none_of_five vs ws xs ys zs c d e f g = none (vs ++ ws ++ xs ++ ys) zs (none_of_four vs ws xs ys c d e f) g

-- where a value is due
value_unbroken : (s : Scope) (e : Expression) → IsKnown (operand (verdict s e)) → operand_broken e (verdict s e) ≡ []
value_unbroken s e k = own (bare_place e) (asked value_due (fine (verdict s e))) k

valued_in : (s : Scope) (e : Expression) → IsKnown (operand (verdict s e)) → IsKnown (fine (verdict s e))
valued_in s e k = part value_due (fine (verdict s e)) k

-- a type as what is known
of_type : (v : Verdict Type') → IsKnown (fine (checked (λ t. Fine (declared (type' t))) v)) → IsKnown (fine v)
of_type (Fine t) k = (t, refl)
of_type (Breaks kind) k = cc
of_type Passed k = cc

-- a call, by what is known of its callee
maker : (o : Option Known) → is_make o ≡ true → IsKnown o
maker None h = cc
maker (Some k) h = (k, refl)

called_parts : (o : Option Known) (v : Verdict Typed) (xs : Option (List Typed)) → IsKnown (fine (if is_make o then valued v else asked_both called o xs)) →
    IsKnown o × (((is_make o ≡ true) × IsKnown (fine v)) ⊎ ((is_make o ≡ false) × IsKnown xs))
called_parts o v xs k = elim (cases_Bool (is_make o)) [
  | inl make ↦ (maker o make, inl (make, plain v (rw make at k)))
  | inr other ↦ (let ks = two called o xs (rw other at k) in (ks.0, inr (other, ks.1)))
]

never_made : (o : Option Known) (xs : Option (List Typed)) → IsKnown (fine (asked_both unmade o xs)) → ⊥
never_made None xs k = cc
never_made (Some x) None k = cc
never_made (Some x) (Some xs) k = cc

-- what a name of a type finds stands in a package, where it has a dot
no_type : (v : Verdict Typed) → IsKnown (fine (asked type_due (fine (valued v)))) → ⊥
no_type (Fine e) k = cc
no_type (Breaks kind) k = cc
no_type Passed k = cc

not_selected : (path x : List ℕ) (v : Verdict Typed) → IsKnown (fine (asked type_due (fine (asked (selection_verdict path x) (fine (valued v)))))) → ⊥
not_selected path x (Fine e) k = no_type (checked (field_verdict path x) (Fine e)) k
not_selected path x (Breaks kind) k = cc
not_selected path x Passed k = cc

of_package : (p : Place) (path x : List ℕ) (v : Verdict Known) → IsKnown (fine (asked type_due (fine (asked (selection_verdict path x) (fine (subject v)))))) → broken p (asked packaged (fine v)) ≡ []
of_package p path x (Breaks kind) k = refl
of_package p path x Passed k = refl
of_package p path x (Fine (package' names)) k = refl
of_package p path x (Fine known) k = absurd (not_selected path x (value_due known) k)

package_clean : (s : Scope) (p : Place) (e : Expression) (x : Name) → IsKnown (fine (asked type_due (fine (verdict s (selector p e x))))) → package_broken s e ≡ []
package_clean s p (name q y) x k = of_package q s.path x.text (look_up_known y s.names) k
package_clean s p e x k = refl

qualified_clean : (s : Scope) (e : Expression) → IsKnown (fine (asked type_due (fine (verdict s e)))) → qualifier_broken s e ≡ []
qualified_clean s (selector p e x) k = package_clean s p e x k
qualified_clean s e k = refl

mutual
  clean : (s : Scope) (e : Expression) → IsKnown (fine (verdict s e)) → faults s e ≡ []
  clean s (name p x) k = own p (look_up_known x s.names) k
  clean s (integer p text) k = own p (valued (literal text)) k
  clean s (rune p z) k = refl
  clean s (string p bytes) k = refl
  clean s (parenthesized p e) k =
      none (faults s e) (part_broken e (inside (verdict s e))) (clean s e (part unpackaged (fine (verdict s e)) k)) (own (bare_place e) (inside (verdict s e)) k)
  clean s (composite_lit p t q es) k =
      let of = fine (type_verdict s t) in
      let ks = two (literal_of s.path) of (elements s of 0 es) (plain (asked_both (literal_of s.path) of (elements s of 0 es)) k) in
      none_of_three (type_faults s t) (elements_faults s of 0 es) _ (type_clean s t ks.0) (elements_clean s of 0 es ks.1) (own p (verdict s (composite_lit p t q es)) k)
  clean s (conversion p t e) k =
      let ks = two converted (fine (type_verdict s t)) (operand (verdict s e)) (plain (asked_both converted (fine (type_verdict s t)) (operand (verdict s e))) k) in
      none_of_four (type_faults s t) (faults s e) (operand_broken e (verdict s e)) _ (type_clean s t ks.0) (clean s e (valued_in s e ks.1)) (value_unbroken s e ks.1) (own p (verdict s (conversion p t e)) k)
  clean s (selector p e x) k =
      let known = part (selection_verdict s.path x.text) (fine (subject (verdict s e))) k in
      none_of_three (faults s e) (part_broken e (subject (verdict s e))) _ (clean s e (part selectable (fine (verdict s e)) known)) (own (bare_place e) (subject (verdict s e)) known)
      (own p (verdict s (selector p e x)) k)
  clean s (index p e i) k =
      let ks = two index_verdict (operand (verdict s e)) (operand (verdict s i)) (plain (asked_both index_verdict (operand (verdict s e)) (operand (verdict s i))) k) in
      none_of_five (faults s e) (operand_broken e (verdict s e)) (faults s i) (operand_broken i (verdict s i)) _
      (clean s e (valued_in s e ks.0)) (value_unbroken s e ks.0) (clean s i (valued_in s i ks.1)) (value_unbroken s i ks.1) (own p (verdict s (index p e i)) k)
  clean s (cut p e a b) k =
      let ends = both (bound_known s a) (bound_known s b) in
      let rule : Typed → Option Typed × Option Typed → Verdict Typed = λ e ends. cut_of e ends.0 ends.1 in
      let ks = two rule (operand (verdict s e)) ends (plain (asked_both rule (operand (verdict s e)) ends) k) in
      let bounds = parts (bound_known s a) (bound_known s b) ks.1 in
      none_of_five (faults s e) (operand_broken e (verdict s e)) (bound_faults s a) (bound_faults s b) _
      (clean s e (valued_in s e ks.0)) (value_unbroken s e ks.0) (bound_clean s a bounds.0) (bound_clean s b bounds.1) (own p (verdict s (cut p e a b)) k)
  clean s (type_operand p t) k = type_clean s t (of_type (type_verdict s t) k)
  clean s (call p f es) k =
      let o = fine (callee (verdict s f)) in
      let known = called_parts o (made_verdict s es) (operand_list s es) k in
      let others : call_faults s o es ≡ [] = elim known.1 [ inl h ↦ rw h.0 (made_clean s es h.1) | inr h ↦ rw h.0 (operands_clean s es h.1) ] in
      none_of_four (faults s f) (part_broken f (callee (verdict s f))) (call_faults s o es) _
      (clean s f (part callable (fine (verdict s f)) known.0)) (own (bare_place f) (callee (verdict s f)) known.0) others (own p (verdict s (call p f es)) k)
  clean s (unary p op e) k =
      let known = part (unary_verdict op) (operand (verdict s e)) (plain (asked (unary_verdict op) (operand (verdict s e))) k) in
      none_of_three (faults s e) (operand_broken e (verdict s e)) _ (clean s e (valued_in s e known)) (value_unbroken s e known) (own p (verdict s (unary p op e)) k)
  clean s (binary p op a b) k =
      let ks = two (binary_verdict op) (operand (verdict s a)) (operand (verdict s b)) (plain (asked_both (binary_verdict op) (operand (verdict s a)) (operand (verdict s b))) k) in
      none_of_five (faults s a) (operand_broken a (verdict s a)) (faults s b) (operand_broken b (verdict s b)) _
      (clean s a (valued_in s a ks.0)) (value_unbroken s a ks.0) (clean s b (valued_in s b ks.1)) (value_unbroken s b ks.1) (own p (verdict s (binary p op a b)) k)

  bound_clean : (s : Scope) (b : Bound) → IsKnown (bound_known s b) → bound_faults s b ≡ []
  bound_clean s no_bound k = refl
  bound_clean s (bound e) k =
      let known = mapped Some (operand (verdict s e)) k in
      none (faults s e) (operand_broken e (verdict s e)) (clean s e (valued_in s e known)) (value_unbroken s e known)

  made_clean : (s : Scope) (es : ExpressionList) → IsKnown (fine (made_verdict s es)) → made_faults s es ≡ []
  made_clean s no_exprs k = refl
  made_clean s (some_exprs e es) k = elim (cases_Bool (is_name e)) [
    | inl is ↦ (
        let of = asked type_due (fine (verdict s e)) in
        let ks = two make_verdict (fine of) (operand_list s es) (rw is at k) in
        rw is (none_of_four (qualifier_broken s e) (faults s e) (part_broken e of) (operands_faults s es)
        (qualified_clean s e ks.0) (clean s e (part type_due (fine (verdict s e)) ks.0)) (own (bare_place e) of ks.0) (operands_clean s es ks.1)))
    | inr other ↦ absurd (never_made (fine (asked unprinted (fine (verdict s e)))) (operand_list s es) (rw other at k))
  ]

  operands_clean : (s : Scope) (es : ExpressionList) → IsKnown (operand_list s es) → operands_faults s es ≡ []
  operands_clean s no_exprs k = refl
  operands_clean s (some_exprs e es) k =
      let ks = joined_parts (option_map (λ v. v ∷ []) (operand (verdict s e))) (operand_list s es) k in
      let known = mapped (λ v. v ∷ []) (operand (verdict s e)) ks.0 in
      none_of_three (faults s e) (operand_broken e (verdict s e)) (operands_faults s es) (clean s e (valued_in s e known)) (value_unbroken s e known) (operands_clean s es ks.1)

  elements_clean : (s : Scope) (of : Option Type') (n : ℕ) (es : Elements) → IsKnown (elements s of n es) → elements_faults s of n es ≡ []
  elements_clean s of n no_elements k = refl
  elements_clean s of n (element key v es) k =
      let due = element_due of n (key_text key) in
      let ks = joined_parts (option_map _ (fine (element_verdict s due v))) (elements s of (suc n) es) k in
      none (element_faults s due v) (elements_faults s of (suc n) es) (element_clean s due v (mapped _ (fine (element_verdict s due v)) ks.0)) (elements_clean s of (suc n) es ks.1)

  element_clean : (s : Scope) (due : Due) (v : Element) → IsKnown (fine (element_verdict s due v)) → element_faults s due v ≡ []
  element_clean s due (expression_element e) k = none (faults s e) (operand_broken e (verdict s e)) (clean s e (valued_in s e k)) (value_unbroken s e k)
  element_clean s due (value_element p es) k =
      let of = due_type due in
      let known = part (untyped_literal s.path due) (elements s of 0 es) k in
      none (elements_faults s of 0 es) _ (elements_clean s of 0 es known) (own p (element_verdict s due (value_element p es)) k)

  type_clean : (s : Scope) (t : TypeExpr) → IsKnown (fine (type_verdict s t)) → type_faults s t ≡ []
  type_clean s (named p x) k =
      none (broken p (look_up_known x.text s.names)) _ (own p (look_up_known x.text s.names) (part type_due (fine (look_up_known x.text s.names)) k)) (own p (type_verdict s (named p x)) k)
  type_clean s (qualified p m n) k =
      let known = part type_due (fine (qualified_known s m n)) k in
      none_of_three (broken p (look_up_known m.text s.names)) (broken p (qualified_known s m n)) _ (own p (look_up_known m.text s.names) (part (exported_by n.text) (fine (look_up_known m.text s.names)) known))
      (own p (qualified_known s m n) known) (own p (type_verdict s (qualified p m n)) k)
  type_clean s (array p e t) k =
      let ks = two array_verdict (operand (verdict s e)) (fine (type_verdict s t)) k in
      none_of_four (faults s e) (operand_broken e (verdict s e)) (type_faults s t) _ (clean s e (valued_in s e ks.0)) (value_unbroken s e ks.0) (type_clean s t ks.1) (own p (type_verdict s (array p e t)) k)
  type_clean s (slice p t) k = none (type_faults s t) _ (type_clean s t (part slice_verdict (fine (type_verdict s t)) k)) (own p (type_verdict s (slice p t)) k)
  type_clean s (struct p fs) k =
      none (fields_faults s fs) _ (fields_clean s fs (part struct_of (fields_known s fs) k)) (own (struct_place p fs) (type_verdict s (struct p fs)) k)

  fields_clean : (s : Scope) (fs : FieldDecls) → IsKnown (fields_known s fs) → fields_faults s fs ≡ []
  fields_clean s no_fields k = refl
  fields_clean s (field names t fs) k =
      let ks = joined_parts (option_map (λ k. map (declared_field s.path k) names) (fine (type_verdict s t))) (fields_known s fs) k in
      none (type_faults s t) (fields_faults s fs) (type_clean s t (mapped (λ k. map (declared_field s.path k) names) (fine (type_verdict s t)) ks.0)) (fields_clean s fs ks.1)

unknown : {A : Type 0} (o : Option A) (fs : List (Place × FaultKind)) → (IsKnown o → fs ≡ []) → fs ≢ [] → o ≡ None
unknown None fs none_of some = refl
unknown (Some x) fs none_of some = absurd (some (none_of (x, refl)))

-- nothing is known of what has a fault
pub faulty_unknown : (s : Scope) (e : Expression) → faults s e ≢ [] → fine (verdict s e) ≡ None
faulty_unknown s e some = unknown (fine (verdict s e)) (faults s e) (clean s e) some

pub faulty_type_unknown : (s : Scope) (t : TypeExpr) → type_faults s t ≢ [] → fine (type_verdict s t) ≡ None
faulty_type_unknown s t some = unknown (fine (type_verdict s t)) (type_faults s t) (type_clean s t) some

-- the same of values
operand_clean : (s : Scope) (e : Expression) → IsKnown (operand (verdict s e)) → faults s e ++ operand_broken e (verdict s e) ≡ []
operand_clean s e k = none (faults s e) (operand_broken e (verdict s e)) (clean s e (valued_in s e k)) (value_unbroken s e k)

pub faulty_operand_unknown : (s : Scope) (e : Expression) → faults s e ++ operand_broken e (verdict s e) ≢ [] → operand (verdict s e) ≡ None
faulty_operand_unknown s e some = unknown (operand (verdict s e)) (faults s e ++ operand_broken e (verdict s e)) (operand_clean s e) some

pub faulty_operands_unknown : (s : Scope) (es : ExpressionList) → operands_faults s es ≢ [] → operand_list s es ≡ None
faulty_operands_unknown s es some = unknown (operand_list s es) (operands_faults s es) (operands_clean s es) some
