-- What the rules say of each node, and the faults of nodes in their order: a node behind its parts, from left to right.
use Rattle.std.specs.Prelude.{ℕ, suc, ◌++◌, pos, Bool, true, false, if◌then◌else◌, bytes_eq, List, [], ◌∷◌, map, codes, Option, Some, None, option_map, unwrap_or}
use Rattle.std.specs.List.{find}
use Rattle.go_text.specs.declared.place.Place.{Place}
use Rattle.go_text.specs.declared.fault.FaultKind.{FaultKind}
use Rattle.go_text.specs.declared.fault.FaultKind.TheVariants.{Count}
use Rattle.go_ast.specs.Trees.{Name, TypeExpr, named, qualified, array, slice, struct, FieldDecls, no_fields, field, Expression, name, integer, rune, string, parenthesized, composite_lit, conversion, selector, index, cut, Bound, no_bound, bound, call, type_operand, unary, binary, ExpressionList, no_exprs, some_exprs, Elements, no_elements, element, Element, expression_element, value_element, place_of}
use Rattle.go_const.specs.declared.constant.Const.TheVariants.{Integer, Text}
use Rattle.go_types.specs.declared.types.Basic.TheVariants as basics
use Rattle.go_types.specs.declared.types.Untyped.TheVariants as kinds
use Rattle.go_types.specs.Types.{Type', basic}
use Rattle.go_typed.specs.Trees.{Expr as Typed, constant}
use Rattle.go_expr.specs.Known.{type', make', declared, Known, Verdict, Fine, Breaks, Passed, Scope, look_up_known}
use Rattle.go_expr.specs.Rules.{fine, checked, valued, type_due, array_verdict, slice_verdict, FieldList, declared_field, struct_of, value_due, unpackaged, selectable, callable, literal, ElementList, literal_of, Due, element_due, due_type, untyped_literal, selection_verdict, exported_by, packaged, index_verdict, cut_of, make_verdict, unmade, unprinted, binary_verdict, unary_verdict, converted, called}

-- a rule over parts, which is asked where they are fine
abbrev pub asked : {A B : Type 0} → (A → Verdict B) → Option A → Verdict B
asked rule None = Passed
asked rule (Some x) = rule x

abbrev pub both : {A B : Type 0} → Option A → Option B → Option (A × B)
both (Some x) (Some y) = Some (x, y)
both _ _ = None

-- those of one and of the others
abbrev pub chained : {A : Type 0} → Option (List A) → Option (List A) → Option (List A)
chained xs ys = option_map (λ k. k.0 ++ k.1) (both xs ys)

-- a rule over two parts
abbrev pub asked_both : {A B C : Type 0} → (A → B → Verdict C) → Option A → Option B → Verdict C
asked_both rule x y = asked (λ k. rule k.0 k.1) (both x y)

-- what a qualified name finds
abbrev pub qualified_known : Scope → Name → Name → Verdict Known
qualified_known s m n = asked (exported_by n.text) (fine (look_up_known m.text s.names))

-- what is known where a value is due, in parentheses, before a dot, and before arguments
abbrev pub operand : Verdict Known → Option Typed
operand v = fine (asked value_due (fine v))

abbrev pub inside : Verdict Known → Verdict Known
inside v = asked unpackaged (fine v)

abbrev pub subject : Verdict Known → Verdict Known
subject v = asked selectable (fine v)

abbrev pub callee : Verdict Known → Verdict Known
callee v = asked callable (fine v)

abbrev pub key_text : Option Name → Option (List ℕ)
key_text key = option_map (λ (n : Name). n.text) key

-- the function that is called takes a type in front of its operands
abbrev pub is_make : Option Known → Bool
is_make o = elim o [ Some (declared make') ↦ true | _ ↦ false ]

abbrev pub is_plain_name : Expression → Bool
is_plain_name (name p x) = true
is_plain_name e = false

-- a type, or a name of one, or one of a package, without parentheses
abbrev pub is_name : Expression → Bool
is_name (name p x) = true
is_name (selector p e x) = is_plain_name e
is_name (type_operand p t) = true
is_name e = false

-- what expressions and types are
abbrev mutual
  pub verdict : Scope → Expression → Verdict Known
  verdict s (name p x) = look_up_known x s.names
  verdict s (integer p text) = valued (literal text)
  verdict s (rune p z) = valued (Fine (constant (basic (basics.Untyped kinds.Rune)) (Integer (pos z))))
  verdict s (string p bytes) = valued (Fine (constant (basic (basics.Untyped kinds.String)) (Text bytes)))
  verdict s (parenthesized p e) = inside (verdict s e)
  verdict s (composite_lit p t q es) =
      valued (asked_both (literal_of s.path) (fine (type_verdict s t)) (elements s (fine (type_verdict s t)) 0 es))
  verdict s (selector p e x) = asked (selection_verdict s.path x.text) (fine (subject (verdict s e)))
  verdict s (index p e i) = valued (asked_both index_verdict (operand (verdict s e)) (operand (verdict s i)))
  verdict s (conversion p t e) = valued (asked_both converted (fine (type_verdict s t)) (operand (verdict s e)))
  verdict s (cut p e a b) =
      valued (asked_both (λ e bounds. cut_of e bounds.0 bounds.1) (operand (verdict s e)) (both (bound_known s a) (bound_known s b)))
  verdict s (call p f es) =
      if is_make (fine (callee (verdict s f))) then valued (made_verdict s es) else asked_both called (fine (callee (verdict s f))) (operand_list s es)
  verdict s (type_operand p t) = checked (λ t. Fine (declared (type' t))) (type_verdict s t)
  verdict s (unary p op e) = valued (asked (unary_verdict op) (operand (verdict s e)))
  verdict s (binary p op a b) = valued (asked_both (binary_verdict op) (operand (verdict s a)) (operand (verdict s b)))

  -- one that is left out is known
  pub bound_known : Scope → Bound → Option (Option Typed)
  bound_known s no_bound = Some None
  bound_known s (bound e) = option_map Some (operand (verdict s e))

  -- the type that is made; what can't be one breaks the rule of the call
  pub made_verdict : Scope → ExpressionList → Verdict Typed
  made_verdict s no_exprs = Breaks Count
  made_verdict s (some_exprs e es) =
      if is_name e then asked_both make_verdict (fine (asked type_due (fine (verdict s e)))) (operand_list s es)
      else asked_both unmade (fine (asked unprinted (fine (verdict s e)))) (operand_list s es)

  pub operand_list : Scope → ExpressionList → Option (List Typed)
  operand_list s no_exprs = Some []
  operand_list s (some_exprs e es) = chained (option_map (λ v. v ∷ []) (operand (verdict s e))) (operand_list s es)

  -- elements of a literal of a type, from a number on
  pub elements : Scope → Option Type' → ℕ → Elements → Option ElementList
  elements s of n no_elements = Some []
  elements s of n (element key v es) =
      chained (option_map (λ e. (key_text key, e) ∷ []) (fine (element_verdict s (element_due of n (key_text key)) v))) (elements s of (suc n) es)

  pub element_verdict : Scope → Due → Element → Verdict Typed
  element_verdict s due (expression_element e) = asked value_due (fine (verdict s e))
  element_verdict s due (value_element p es) = asked (untyped_literal s.path due) (elements s (due_type due) 0 es)

  pub type_verdict : Scope → TypeExpr → Verdict Type'
  type_verdict s (named p x) = asked type_due (fine (look_up_known x.text s.names))
  type_verdict s (qualified p m n) = asked type_due (fine (qualified_known s m n))
  type_verdict s (array p e t) = asked_both array_verdict (operand (verdict s e)) (fine (type_verdict s t))
  type_verdict s (slice p t) = asked slice_verdict (fine (type_verdict s t))
  type_verdict s (struct p fs) = asked struct_of (fields_known s fs)

  pub fields_known : Scope → FieldDecls → Option FieldList
  fields_known s no_fields = Some []
  fields_known s (field names t fs) = chained (option_map (λ k. map (declared_field s.path k) names) (fine (type_verdict s t))) (fields_known s fs)

-- a call of what is known
abbrev pub call_verdict : Scope → Option Known → ExpressionList → Verdict Known
call_verdict s o es = if is_make o then valued (made_verdict s es) else asked_both called o (operand_list s es)

-- the fault of a node at a place, if it breaks a rule
abbrev pub broken : {A : Type 0} → Place → Verdict A → List (Place × FaultKind)
broken p v = elim v [ Breaks kind ↦ (p, kind) ∷ [] | _ ↦ [] ]

-- that of a part where something is due, which stands at what is in the part's parentheses
abbrev pub bare_place : Expression → Place
bare_place (parenthesized p e) = bare_place e
bare_place e = place_of e

abbrev pub part_broken : {A : Type 0} → Expression → Verdict A → List (Place × FaultKind)
part_broken e v = broken (bare_place e) v

abbrev pub operand_broken : Expression → Verdict Known → List (Place × FaultKind)
operand_broken e v = part_broken e (asked value_due (fine v))

-- where the fault of a struct stands: at the first of its fields that is blank, if one is
abbrev pub first_blank : List Name → Option Place
first_blank names = option_map (λ (n : Name). n.place) (find (λ (n : Name). bytes_eq n.text (codes "_")) names)

abbrev pub struct_place : Place → FieldDecls → Place
struct_place p no_fields = p
struct_place p (field names t fs) = unwrap_or (first_blank names) (struct_place p fs)

-- in the name of a type a package is due before the dot
abbrev pub package_broken : Scope → Expression → List (Place × FaultKind)
package_broken s (name p x) = broken p (asked packaged (fine (look_up_known x s.names)))
package_broken s e = []

abbrev pub qualifier_broken : Scope → Expression → List (Place × FaultKind)
qualifier_broken s (selector p e x) = package_broken s e
qualifier_broken s e = []

abbrev mutual
  pub faults : Scope → Expression → List (Place × FaultKind)
  faults s (parenthesized p e) = faults s e ++ part_broken e (inside (verdict s e))
  faults s (composite_lit p t q es) =
      type_faults s t ++ elements_faults s (fine (type_verdict s t)) 0 es ++ broken p (verdict s (composite_lit p t q es))
  faults s (selector p e x) = faults s e ++ part_broken e (subject (verdict s e)) ++ broken p (verdict s (selector p e x))
  faults s (index p e i) =
      faults s e ++ operand_broken e (verdict s e) ++ faults s i ++ operand_broken i (verdict s i) ++ broken p (verdict s (index p e i))
  faults s (conversion p t e) = type_faults s t ++ faults s e ++ operand_broken e (verdict s e) ++ broken p (verdict s (conversion p t e))
  faults s (cut p e a b) =
      faults s e ++ operand_broken e (verdict s e) ++ bound_faults s a ++ bound_faults s b ++ broken p (verdict s (cut p e a b))
  faults s (call p f es) =
      faults s f ++ part_broken f (callee (verdict s f))
      ++ (if is_make (fine (callee (verdict s f))) then made_faults s es else operands_faults s es) ++ broken p (verdict s (call p f es))
  faults s (type_operand p t) = type_faults s t
  faults s (unary p op e) = faults s e ++ operand_broken e (verdict s e) ++ broken p (verdict s (unary p op e))
  faults s (binary p op a b) =
      faults s a ++ operand_broken a (verdict s a) ++ faults s b ++ operand_broken b (verdict s b) ++ broken p (verdict s (binary p op a b))
  faults s e = broken (place_of e) (verdict s e)

  pub bound_faults : Scope → Bound → List (Place × FaultKind)
  bound_faults s no_bound = []
  bound_faults s (bound e) = faults s e ++ operand_broken e (verdict s e)

  -- a name is due to be a type, and anything else is no call of Println
  pub made_faults : Scope → ExpressionList → List (Place × FaultKind)
  made_faults s no_exprs = []
  made_faults s (some_exprs e es) =
      qualifier_broken s e ++ faults s e
      ++ (if is_name e then part_broken e (asked type_due (fine (verdict s e))) else part_broken e (asked unprinted (fine (verdict s e))))
      ++ operands_faults s es

  pub operands_faults : Scope → ExpressionList → List (Place × FaultKind)
  operands_faults s no_exprs = []
  operands_faults s (some_exprs e es) = faults s e ++ operand_broken e (verdict s e) ++ operands_faults s es

  pub elements_faults : Scope → Option Type' → ℕ → Elements → List (Place × FaultKind)
  elements_faults s of n no_elements = []
  elements_faults s of n (element key v es) = element_faults s (element_due of n (key_text key)) v ++ elements_faults s of (suc n) es

  -- one that leaves out its type is a node of its own, at its brace
  pub element_faults : Scope → Due → Element → List (Place × FaultKind)
  element_faults s due (expression_element e) = faults s e ++ operand_broken e (verdict s e)
  element_faults s due (value_element p es) = elements_faults s (due_type due) 0 es ++ broken p (element_verdict s due (value_element p es))

  pub type_faults : Scope → TypeExpr → List (Place × FaultKind)
  type_faults s (named p x) = broken p (look_up_known x.text s.names) ++ broken p (type_verdict s (named p x))
  type_faults s (qualified p m n) = broken p (look_up_known m.text s.names) ++ broken p (qualified_known s m n) ++ broken p (type_verdict s (qualified p m n))
  type_faults s (array p e t) = faults s e ++ operand_broken e (verdict s e) ++ type_faults s t ++ broken p (type_verdict s (array p e t))
  type_faults s (slice p t) = type_faults s t ++ broken p (type_verdict s (slice p t))
  type_faults s (struct p fs) = fields_faults s fs ++ broken (struct_place p fs) (type_verdict s (struct p fs))

  pub fields_faults : Scope → FieldDecls → List (Place × FaultKind)
  fields_faults s no_fields = []
  fields_faults s (field names t fs) = type_faults s t ++ fields_faults s fs

-- those of the operands of a call of what is known
abbrev pub call_faults : Scope → Option Known → ExpressionList → List (Place × FaultKind)
call_faults s o es = if is_make o then made_faults s es else operands_faults s es
