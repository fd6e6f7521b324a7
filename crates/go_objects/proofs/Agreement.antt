-- Scopes that find the same for each name that a tree uses give it one verdict.
use Rattle.std.proofs.Common.{◌≡◌, ℕ, suc, Bool, true, false, List, [], ◌∷◌, ◌++◌, Option, Some, map, refl, ap, ◌∙◌}
use Rattle.std.specs.Prelude.{option_map, if◌then◌else◌}
use Rattle.std.specs.List.{Contains}
use Rattle.ws_reach.proofs.Reached.{contains_get, get_contains}
use Rattle.go_ast.specs.Trees.{TypeExpr, named, qualified, array, slice, struct, FieldDecls, no_fields, field, Expression, name, integer, rune, string, parenthesized, composite_lit, conversion, selector, index, cut, Bound, no_bound, bound, call, type_operand, unary, binary, ExpressionList, no_exprs, some_exprs, Elements, no_elements, element, Element, expression_element, value_element}
use Rattle.go_types.specs.Types.{Type'}
use Rattle.go_scope.specs.Names.{Used, in_type, in_fields, in_expr, in_bound, in_exprs, in_elements, in_element}
use Rattle.go_typed.specs.Trees.{Expr as Typed}
use Rattle.go_expr.specs.Known.{type', declared, Known, Verdict, Fine, Scope, look_up_known}
use Rattle.go_expr.specs.Rules.{fine, checked, valued, type_due, array_verdict, slice_verdict, declared_field, struct_of, value_due, ElementList, literal_of, Due, element_due, due_type, untyped_literal, selection_verdict, exported_by, index_verdict, cut_of, make_verdict, unmade, unprinted, unary_verdict, binary_verdict, converted, called}
use Rattle.go_expr.specs.Verdicts.{asked, both, asked_both, chained, operand, callee, inside, subject, key_text, is_make, is_name, verdict, bound_known, made_verdict, call_verdict, operand_list, elements, element_verdict, type_verdict, fields_known}

-- at each name that is used
abbrev Agree : Scope → Scope → List Used → Type 0
Agree s r [] = Unit {0}
Agree s r (u ∷ us) = (look_up_known u.0 s.names ≡ look_up_known u.0 r.names) × Agree s r us

first : (s r : Scope) (us vs : List Used) → Agree s r (us ++ vs) → Agree s r us
first s r [] vs h = tt
first s r (u ∷ us) vs h = (h.0, first s r us vs h.1)

second : (s r : Scope) (us vs : List Used) → Agree s r (us ++ vs) → Agree s r vs
second s r [] vs h = h
second s r (u ∷ us) vs h = second s r us vs h.1

abbrev pub AgreeOn : Scope → Scope → List Used → Type 0
AgreeOn s r us = (x : List ℕ) → Contains (map (λ (u : Used). u.0) us) x → look_up_known x s.names ≡ look_up_known x r.names

behind : (xs : List (List ℕ)) (y x : List ℕ) → Contains xs x → Contains (y ∷ xs) x
behind xs y x c = get_contains (y ∷ xs) (suc c.0) x (contains_get xs x c)

agree : (s r : Scope) (us : List Used) → AgreeOn s r us → Agree s r us
agree s r [] h = tt
agree s r (u ∷ us) h =
    let names = map (λ (u : Used). u.0) us in
    (h u.0 (get_contains (u.0 ∷ names) 0 u.0 refl), agree s r us (λ x c. h x (behind names u.0 x c)))

-- a rule over two parts that are the same
by_both : {A B C : Type 0} (rule : A → B → Verdict C) (a b : Option A) (c d : Option B) → a ≡ b → c ≡ d → asked_both rule a c ≡ asked_both rule b d
by_both rule a b c d e f = ap (λ x. asked_both rule x c) e ∙ ap (asked_both rule b) f

by_value : (rule : Typed → Typed → Verdict Typed) (a b c d : Verdict Known) → a ≡ b → c ≡ d → valued (asked_both rule (operand a) (operand c)) ≡ valued (asked_both rule (operand b) (operand d))
by_value rule a b c d e f = ap valued (by_both rule (operand a) (operand b) (operand c) (operand d) (ap operand e) (ap operand f))

by_joined : {A : Type 0} (a b c d : Option (List A)) → a ≡ b → c ≡ d → chained a c ≡ chained b d
by_joined a b c d e f = ap (λ x. chained x c) e ∙ ap (chained b) f

-- a rule over a value and its bounds
abbrev cut_between : Typed → Option Typed × Option Typed → Verdict Typed
cut_between e bounds = cut_of e bounds.0 bounds.1

-- what is made, by what is known of the first operand and of the others
abbrev made_by : Expression → Verdict Known → Option (List Typed) → Verdict Typed
made_by e v sizes = if is_name e then asked_both make_verdict (fine (asked type_due (fine v))) sizes else asked_both unmade (fine (asked unprinted (fine v))) sizes

-- a call of what is known, by what it makes and by its operands
abbrev called_by : Option Known → Verdict Typed → Option (List Typed) → Verdict Known
called_by o v xs = if is_make o then valued v else asked_both called o xs

mutual
  same : (s r : Scope) → s.path ≡ r.path → (dotted : Bool) (e : Expression) → Agree s r (in_expr dotted e) → verdict s e ≡ verdict r e
  same s r p dotted (name q x) h = h.0
  same s r p dotted (integer q text) h = refl
  same s r p dotted (rune q z) h = refl
  same s r p dotted (string q bytes) h = refl
  same s r p dotted (parenthesized q e) h = ap inside (same s r p false e h)
  same s r p dotted (composite_lit q t b es) h =
      let of : fine (type_verdict s t) ≡ fine (type_verdict r t) = ap fine (same_type s r p t (first s r (in_type t) (in_elements es) h)) in
      ap (λ path. valued (asked_both (literal_of path) (fine (type_verdict s t)) (elements s (fine (type_verdict s t)) 0 es))) p
      ∙ ap valued (by_both (literal_of r.path) _ _ _ _ of
      (ap (λ o. elements s o 0 es) of ∙ same_elements s r p (fine (type_verdict r t)) 0 es (second s r (in_type t) (in_elements es) h)))
  same s r p dotted (conversion q t e) h =
      ap valued (by_both converted _ _ _ _ (ap fine (same_type s r p t (first s r (in_type t) (in_expr false e) h))) (ap operand (same s r p false e (second s r (in_type t) (in_expr false e) h))))
  same s r p dotted (selector q e x) h =
      ap (λ path. asked (selection_verdict path x.text) (fine (subject (verdict s e)))) p ∙ ap (λ (v : Verdict Known). asked (selection_verdict r.path x.text) (fine (subject v))) (same s r p true e h)
  same s r p dotted (index q e i) h = by_value index_verdict _ _ _ _ (same s r p false e (first s r (in_expr false e) (in_expr false i) h)) (same s r p false i (second s r (in_expr false e) (in_expr false i) h))
  same s r p dotted (cut q e a b) h =
      let front = first s r (in_expr false e ++ in_bound a) (in_bound b) h in
      ap valued (by_both cut_between _ _ _ _ (ap operand (same s r p false e (first s r (in_expr false e) (in_bound a) front)))
      (ap (λ (x : Option (Option Typed)). both x (bound_known s b)) (same_bound s r p a (second s r (in_expr false e) (in_bound a) front))
      ∙ ap (both (bound_known r a)) (same_bound s r p b (second s r (in_expr false e ++ in_bound a) (in_bound b) h))))
  same s r p dotted (type_operand q t) h = ap (λ (v : Verdict Type'). checked (λ t. Fine (declared (type' t))) v) (same_type s r p t h)
  same s r p dotted (call q f es) h =
      let operands_agree = second s r (in_expr false f) (in_exprs es) h in
      let o = fine (callee (verdict r f)) in
      ap (λ (v : Verdict Known). call_verdict s (fine (callee v)) es) (same s r p false f (first s r (in_expr false f) (in_exprs es) h))
      ∙ ap (λ (v : Verdict Typed). called_by o v (operand_list s es)) (same_made s r p es operands_agree)
      ∙ ap (called_by o (made_verdict r es)) (same_operands s r p es operands_agree)
  same s r p dotted (unary q op e) h = ap (λ (v : Verdict Known). valued (asked (unary_verdict op) (operand v))) (same s r p false e h)
  same s r p dotted (binary q op a b) h = by_value (binary_verdict op) _ _ _ _ (same s r p false a (first s r (in_expr false a) (in_expr false b) h)) (same s r p false b (second s r (in_expr false a) (in_expr false b) h))

  same_bound : (s r : Scope) → s.path ≡ r.path → (b : Bound) → Agree s r (in_bound b) → bound_known s b ≡ bound_known r b
  same_bound s r p no_bound h = refl
  same_bound s r p (bound e) h = ap (λ (v : Verdict Known). option_map Some (operand v)) (same s r p false e h)

  same_made : (s r : Scope) → s.path ≡ r.path → (es : ExpressionList) → Agree s r (in_exprs es) → made_verdict s es ≡ made_verdict r es
  same_made s r p no_exprs h = refl
  same_made s r p (some_exprs e es) h =
      ap (λ (v : Verdict Known). made_by e v (operand_list s es)) (same s r p false e (first s r (in_expr false e) (in_exprs es) h))
      ∙ ap (made_by e (verdict r e)) (same_operands s r p es (second s r (in_expr false e) (in_exprs es) h))

  same_operands : (s r : Scope) → s.path ≡ r.path → (es : ExpressionList) → Agree s r (in_exprs es) → operand_list s es ≡ operand_list r es
  same_operands s r p no_exprs h = refl
  same_operands s r p (some_exprs e es) h =
      by_joined _ _ _ _ (ap (λ (v : Verdict Known). option_map (λ x. x ∷ []) (operand v)) (same s r p false e (first s r (in_expr false e) (in_exprs es) h)))
      (same_operands s r p es (second s r (in_expr false e) (in_exprs es) h))

  same_elements : (s r : Scope) → s.path ≡ r.path → (of : Option Type') (n : ℕ) (es : Elements) → Agree s r (in_elements es) → elements s of n es ≡ elements r of n es
  same_elements s r p of n no_elements h = refl
  same_elements s r p of n (element key e es) h =
      by_joined _ _ _ _
      (ap (λ (v : Verdict Typed). option_map (λ e. (key_text key, e) ∷ []) (fine v)) (same_element s r p (element_due of n (key_text key)) e (first s r (in_element e) (in_elements es) h)))
      (same_elements s r p of (suc n) es (second s r (in_element e) (in_elements es) h))

  same_element : (s r : Scope) → s.path ≡ r.path → (due : Due) (e : Element) → Agree s r (in_element e) → element_verdict s due e ≡ element_verdict r due e
  same_element s r p due (expression_element e) h = ap (λ (v : Verdict Known). asked value_due (fine v)) (same s r p false e h)
  same_element s r p due (value_element q es) h =
      ap (λ path. asked (untyped_literal path due) (elements s (due_type due) 0 es)) p
      ∙ ap (λ (o : Option ElementList). asked (untyped_literal r.path due) o) (same_elements s r p (due_type due) 0 es h)

  same_type : (s r : Scope) → s.path ≡ r.path → (t : TypeExpr) → Agree s r (in_type t) → type_verdict s t ≡ type_verdict r t
  same_type s r p (named q x) h = ap (λ (v : Verdict Known). asked type_due (fine v)) h.0
  same_type s r p (qualified q m n) h =
      ap (λ (v : Verdict Known). asked type_due (fine (asked (exported_by n.text) (fine v)))) h.0
  same_type s r p (array q e t) h =
      by_both array_verdict _ _ _ _ (ap operand (same s r p false e (first s r (in_expr false e) (in_type t) h))) (ap fine (same_type s r p t (second s r (in_expr false e) (in_type t) h)))
  same_type s r p (slice q t) h = ap (λ (v : Verdict Type'). asked slice_verdict (fine v)) (same_type s r p t h)
  same_type s r p (struct q fs) h = ap (asked struct_of) (same_fields s r p fs h)

  same_fields : (s r : Scope) → s.path ≡ r.path → (fs : FieldDecls) → Agree s r (in_fields fs) → fields_known s fs ≡ fields_known r fs
  same_fields s r p no_fields h = refl
  same_fields s r p (field names t fs) h =
      ap (λ (path : List ℕ). chained (option_map (λ k. map (declared_field path k) names) (fine (type_verdict s t))) (fields_known s fs)) p
      ∙ by_joined _ _ _ _ (ap (λ (v : Verdict Type'). option_map (λ k. map (declared_field r.path k) names) (fine v)) (same_type s r p t (first s r (in_type t) (in_fields fs) h)))
      (same_fields s r p fs (second s r (in_type t) (in_fields fs) h))

pub verdict_same : (s r : Scope) (e : Expression) → s.path ≡ r.path → AgreeOn s r (in_expr false e) → verdict s e ≡ verdict r e
verdict_same s r e p h = same s r p false e (agree s r (in_expr false e) h)

pub type_verdict_same : (s r : Scope) (t : TypeExpr) → s.path ≡ r.path → AgreeOn s r (in_type t) → type_verdict s t ≡ type_verdict r t
type_verdict_same s r t p h = same_type s r p t (agree s r (in_type t) h)
