use Rattle.std.proofs.Common.{◌≡◌, ℕ, suc, ◌+◌, ◌<◌, ◌≤◌, get_or, ◌++◌, [], ◌∷◌, Option, List, length, drop, map, refl, ap, sym, ◌∙◌, subst, arith, add-one, Bor}
use Rattle.std.specs.Option.{option_map}
use Rattle.std.proofs.lemmas.List.{drop_all}
use Rattle.std.proofs.lemmas.Result.{err_from_is_err_and}
use Rattle.go_ast.specs.Trees.{Name, Element as Tree, value_element, Expression, call, TypeExpr, struct, pack_fields}
use Rattle.go_ast.specs.declared.expression.Expr.{Expr as ExprNode}
use Rattle.go_ast.specs.declared.expression.ExprKind.{ExprKind}
use Rattle.go_ast.specs.declared.expression.TypeKind.{TypeKind}
use Rattle.go_ast.specs.declared.expression.Element.{Element as ElementTree}
use Rattle.go_ast.specs.declared.expression.Field.{Field}
use Rattle.go_ast.specs.Views.{expr_of as expr_tree, exprs_in, type_of as type_tree, value_of as value_tree, field_of as field_tree}
use Rattle.go_ast.proofs.Rows.{call_seen, struct_seen, value_seen}
use Rattle.go_types.specs.declared.types.GoType.{GoType}
use Rattle.go_types.specs.Types.{Type'}
use Rattle.go_typed.specs.Trees.{Expr as Typed}
use Rattle.go_typed.specs.Views.{as_expr}
use Rattle.go_types.specs.Views.{go_type}
use Rattle.go_expr.specs.Rules.{fine, valued, declared_field, Due, element_due, due_type, untyped_literal, value_due, type_due, unpackaged, unprinted, selectable, callable}
use Rattle.go_expr.specs.Verdicts.{asked, bare_place, key_text, broken, elements, element_verdict, elements_faults, element_faults, chained, operand, verdict, made_verdict, operand_list, type_verdict, fields_known, operand_broken, faults, made_faults, operands_faults, type_faults, fields_faults}
use Rattle.go_expr.specs.Views.{Fails, literal_verdict, known_of, due_of, keyed_part, elements_in, typed_field, scope_of, all_of, Answers, AnswersBehindParts}
use Rattle.go_expr.proofs.Lists.{left, copied, fails_front, fault_later, known_later, joined_done}
use Rattle.go_expr.proofs.Nodes.{of_part, call_asked, make_called, other_called, made_named, qualifier_fails, name_fails, made_unnamed, other_fails, literal_answered}
use Rattle.go_expr.proofs.expression.+check.Goals as goal

-- parts where something is due

pub check_inside-returns : goal.check_inside-returns
check_inside-returns t c =
    let s = scope_of c.args.scope.now in
    let e = expr_tree c.args.e.now in
    of_part known_of c.inside_at.result (bare_place e) c.bare_place.result unpackaged (faults s e) (fine (verdict s e)) (option_map known_of c.in_ok-known.known)
    c.in_ok-known.ensures.0 c.in_ok-known.ensures.1 (sym c.bare_place.ensures) c.inside_at.ensures

pub check_subject-returns : goal.check_subject-returns
check_subject-returns t c =
    let s = scope_of c.args.scope.now in
    let e = expr_tree c.args.e.now in
    of_part known_of c.subject_at.result (bare_place e) c.bare_place.result selectable (faults s e) (fine (verdict s e)) (option_map known_of c.in_ok-known.known)
    c.in_ok-known.ensures.0 c.in_ok-known.ensures.1 (sym c.bare_place.ensures) c.subject_at.ensures

pub check_callee-returns : goal.check_callee-returns
check_callee-returns t c =
    let s = scope_of c.args.scope.now in
    let e = expr_tree c.args.e.now in
    of_part known_of c.callee_at.result (bare_place e) c.bare_place.result callable (faults s e) (fine (verdict s e)) (option_map known_of c.in_ok-known.known)
    c.in_ok-known.ensures.0 c.in_ok-known.ensures.1 (sym c.bare_place.ensures) c.callee_at.ensures

pub check_operand-returns : goal.check_operand-returns
check_operand-returns t c =
    let s = scope_of c.args.scope.now in
    let e = expr_tree c.args.e.now in
    of_part as_expr c.operand_at.result (bare_place e) c.bare_place.result value_due (faults s e) (fine (verdict s e)) (option_map known_of c.in_ok-known.known)
    c.in_ok-known.ensures.0 c.in_ok-known.ensures.1 (sym c.bare_place.ensures) c.operand_at.ensures

pub check_unprinted-returns : goal.check_unprinted-returns
check_unprinted-returns t c =
    let s = scope_of c.args.scope.now in
    let e = expr_tree c.args.e.now in
    of_part known_of c.unprinted_at.result (bare_place e) c.bare_place.result unprinted (faults s e) (fine (verdict s e)) (option_map known_of c.in_ok-known.known)
    c.in_ok-known.ensures.0 c.in_ok-known.ensures.1 (sym c.bare_place.ensures) c.unprinted_at.ensures

pub check_type_operand-returns : goal.check_type_operand-returns
check_type_operand-returns t c =
    let s = scope_of c.args.scope.now in
    let e = expr_tree c.args.e.now in
    of_part go_type c.type_at.result (bare_place e) c.bare_place.result type_due (faults s e) (fine (verdict s e)) (option_map known_of c.in_ok-known.known)
    c.in_ok-known.ensures.0 c.in_ok-known.ensures.1 (sym c.bare_place.ensures) c.type_at.ensures

-- calls

pub check_call-returns-then-is_make : goal.check_call-returns-then-is_make
check_call-returns-then-is_make t c =
    make_called known_of c.check_make.result (scope_of c.args.scope.now) c.args.place (option_map known_of c.args.callee) (exprs_in c.args.arguments.now)
    (sym c.is_make.ensures ∙ c.if-is_make.true) c.check_make.ensures

pub check_call-returns : goal.check_call-returns
check_call-returns t c =
    other_called known_of c.check_called.result (scope_of c.args.scope.now) c.args.place (option_map known_of c.args.callee) (exprs_in c.args.arguments.now)
    (sym c.is_make.ensures ∙ c.if-is_make.false) c.check_called.ensures

-- of arguments the first stands in front of the others
first_argument : (es : List ExprNode) (x : ExprNode) → 1 ≤ length es → x ≡ get_or es 0 x → es ≡ x ∷ drop 1 es
first_argument es x many is = left es 0 x (omega (arith, many)) is

pub check_make-returns-then-is_name : goal.check_make-returns-then-is_name
check_make-returns-then-is_name t c =
    let s = scope_of c.args.scope.now in
    let x = c.first-item.result in
    let es = c.args.arguments.now in
    let r = c.check_sizes.result in
    subst (λ (l : List ExprNode). AnswersBehindParts known_of r (made_faults s (exprs_in l)) c.args.place (valued (made_verdict s (exprs_in l)))) (sym (first_argument es x c.in-len1-up.len_at_least c.first-item.is))
    (made_named known_of r s c.args.place (expr_tree x) (exprs_in (drop 1 es)) (option_map go_type c.in_ok-of.of) (sym c.is_name.ensures ∙ c.if-is_name.true) c.in_ok-check_qualifier.ensures.none c.in_ok-of.ensures.0 c.in_ok-of.ensures.1 c.check_sizes.ensures)

pub check_make-returns-in_err-check_qualifier : goal.check_make-returns-in_err-check_qualifier
check_make-returns-in_err-check_qualifier t c =
    let s = scope_of c.args.scope.now in
    let x = c.first-item.result in
    let es = c.args.arguments.now in
    let r = c.from_residual.result in
    let p = err_from_is_err_and r c.from_residual.ensures.1 in
    let told = qualifier_fails known_of c.in_err-check_qualifier.field-0.0 s c.args.place (expr_tree x) (exprs_in (drop 1 es)) (sym c.is_name.ensures ∙ c.if-is_name.true) c.in_err-check_qualifier.ensures.fault in
    subst (λ (l : List ExprNode). AnswersBehindParts known_of r (made_faults s (exprs_in l)) c.args.place (valued (made_verdict s (exprs_in l)))) (sym (first_argument es x c.in-len1-up.len_at_least c.first-item.is))
    (rw (p.1, p.2) told)

pub check_make-returns-in_err-of : goal.check_make-returns-in_err-of
check_make-returns-in_err-of t c =
    let s = scope_of c.args.scope.now in
    let x = c.first-item.result in
    let es = c.args.arguments.now in
    let r = c.from_residual-in_err-of.result in
    let p = err_from_is_err_and r c.from_residual-in_err-of.ensures.1 in
    let told = name_fails known_of c.in_err-of.field-0.0 s c.args.place (expr_tree x) (exprs_in (drop 1 es)) (sym c.is_name.ensures ∙ c.if-is_name.true) c.in_ok-check_qualifier.ensures.none c.in_err-of.ensures in
    subst (λ (l : List ExprNode). AnswersBehindParts known_of r (made_faults s (exprs_in l)) c.args.place (valued (made_verdict s (exprs_in l)))) (sym (first_argument es x c.in-len1-up.len_at_least c.first-item.is))
    (rw (p.1, p.2) told)

pub check_make-returns-in_err-known : goal.check_make-returns-in_err-known
check_make-returns-in_err-known t c =
    let s = scope_of c.args.scope.now in
    let x = c.first-item.result in
    let es = c.args.arguments.now in
    let r = c.from_residual-in_err-known.result in
    let p = err_from_is_err_and r c.from_residual-in_err-known.ensures.1 in
    let told = other_fails known_of c.in_err-known.field-0.0 s c.args.place (expr_tree x) (exprs_in (drop 1 es)) (sym c.is_name.ensures ∙ c.if-is_name.false) c.in_err-known.ensures in
    subst (λ (l : List ExprNode). AnswersBehindParts known_of r (made_faults s (exprs_in l)) c.args.place (valued (made_verdict s (exprs_in l)))) (sym (first_argument es x c.in-len1-up.len_at_least c.first-item.is))
    (rw (p.1, p.2) told)

pub check_make-returns : goal.check_make-returns
check_make-returns t c =
    let s = scope_of c.args.scope.now in
    let x = c.first-item.result in
    let es = c.args.arguments.now in
    let r = c.check_no_type.result in
    subst (λ (l : List ExprNode). AnswersBehindParts known_of r (made_faults s (exprs_in l)) c.args.place (valued (made_verdict s (exprs_in l)))) (sym (first_argument es x c.in-len1-up.len_at_least c.first-item.is))
    (made_unnamed known_of r s c.args.place (expr_tree x) (exprs_in (drop 1 es)) (option_map known_of c.in_ok-known.known) (sym c.is_name.ensures ∙ c.if-is_name.false) c.in_ok-known.ensures.0 c.in_ok-known.ensures.1 c.check_no_type.ensures)

pub check_behind-loop-i-preserved : goal.check_behind-loop-i-preserved
check_behind-loop-i-preserved t c =
    let s = scope_of c.args.scope.now in
    let es = c.args.expressions.now in
    let i = c.loop-i.i in
    let e = c.index-expressions-i.result in
    let within : i < length es = omega arith in
    let next = left es i e within c.index-expressions-i.is in
    let done = option_map (all_of as_expr) c.loop-i.all in
    let own = option_map (λ (v : Typed). v ∷ []) (operand (verdict s (expr_tree e))) in
    record {
      faults = fault_later (operands_faults s (exprs_in (drop i es))) (faults s (expr_tree e) ++ operand_broken (expr_tree e) (verdict s (expr_tree e))) (operands_faults s (exprs_in (drop (i + 1) es))) _ c.loop-i.invariant.faults (ap (λ (l : List ExprNode). operands_faults s (exprs_in l)) next) c.in_ok-value.ensures.0;
      known = known_later _ done (option_map (all_of as_expr) c.in_ok-all.all) own (operand_list s (exprs_in (drop i es))) (operand_list s (exprs_in (drop (i + 1) es))) c.loop-i.invariant.known (ap (λ (l : List ExprNode). operand_list s (exprs_in l)) next) (c.in_ok-all.ensures ∙ ap (λ (o : Option Typed). chained done (option_map (λ (v : Typed). v ∷ []) o)) (sym c.in_ok-value.ensures.1));
    }

pub check_behind-returns : goal.check_behind-returns
check_behind-returns t c =
    let s = scope_of c.args.scope.now in
    let es = c.args.expressions.now in
    let i = c.loop-i.i in
    let done : length es ≤ i = omega arith in (
      sym c.loop-i.invariant.faults ∙ ap (λ (l : List ExprNode). operands_faults s (exprs_in l)) (drop_all i es done),
      joined_done es i (option_map (all_of as_expr) c.loop-i.all) _ (λ (l : List ExprNode). operand_list s (exprs_in l)) done refl c.loop-i.invariant.known,
    )

-- forms with a row

pub check_expr-returns-in_ok-callee-in-Call : goal.check_expr-returns-in_ok-callee-in-Call
check_expr-returns-in_ok-callee-in-Call t c =
    let place = c.args.e.now.place in
    let s = scope_of c.args.scope.now in
    let f = expr_tree c.deref-in-Call.result.now in
    let es = exprs_in c.deref-in-Call-2.result.now in
    let seen : expr_tree c.args.e.now ≡ call place f es =
    ap (λ (k : ExprKind). expr_tree (record { place = place; kind = k })) c.in-Call.is
    ∙ call_seen place c.in-Call.callee c.in-Call.arguments c.deref-in-Call.result.now (sym c.deref-in-Call.ensures)
    ∙ ap (λ items. call place f (exprs_in items)) (sym c.deref-in-Call-2.ensures.value) in
    let asked = call_asked known_of c.check_call.result s place f es (option_map known_of c.in_ok-callee-in-Call.callee) c.in_ok-callee-in-Call.ensures.0 c.in_ok-callee-in-Call.ensures.1 c.check_call.ensures in
    subst (λ (e : Expression). Answers known_of c.check_call.result (faults s e) (fine (verdict s e))) (sym seen) asked

pub check_type-returns-in-Struct : goal.check_type-returns-in-Struct
check_type-returns-in-Struct t c =
    let place = c.args.of.now.place in
    let s = scope_of c.args.scope.now in
    let seen : type_tree c.args.of.now ≡ struct place (pack_fields (map field_tree c.deref-in-Struct.result.now)) =
    ap (λ (k : TypeKind). type_tree (record { place = place; kind = k })) c.in-Struct.is
    ∙ struct_seen place c.in-Struct.fields
    ∙ ap (λ (items : List Field). struct place (pack_fields (map field_tree items))) (sym c.deref-in-Struct.ensures.value) in
    subst (λ (t : TypeExpr). Answers go_type c.check_struct.result (type_faults s t) (fine (type_verdict s t))) (sym seen) c.check_struct.ensures

-- operands, one after the other

pub check_operands-loop-e-preserved : goal.check_operands-loop-e-preserved
check_operands-loop-e-preserved t c =
    let s = scope_of c.args.scope.now in
    let es = c.args.expressions.now in
    let i = c.loop-e.e-index in
    let e = c.e-item.result in
    let within : i < length es = omega arith in
    let next = left es i e within c.e-item.is in
    let done = option_map (all_of as_expr) c.loop-e.all in
    let own = option_map (λ (v : Typed). v ∷ []) (operand (verdict s (expr_tree e))) in
    record {
      faults = fault_later (operands_faults s (exprs_in (drop i es))) (faults s (expr_tree e) ++ operand_broken (expr_tree e) (verdict s (expr_tree e))) (operands_faults s (exprs_in (drop (i + 1) es))) _ c.loop-e.invariant.faults (ap (λ (l : List ExprNode). operands_faults s (exprs_in l)) next) c.in_ok-value.ensures.0;
      known = known_later _ done (option_map (all_of as_expr) c.in_ok-all.all) own (operand_list s (exprs_in (drop i es))) (operand_list s (exprs_in (drop (i + 1) es))) c.loop-e.invariant.known (ap (λ (l : List ExprNode). operand_list s (exprs_in l)) next) (c.in_ok-all.ensures ∙ ap (λ (o : Option Typed). chained done (option_map (λ (v : Typed). v ∷ []) o)) (sym c.in_ok-value.ensures.1));
    }

pub check_operands-returns : goal.check_operands-returns
check_operands-returns t c =
    let s = scope_of c.args.scope.now in
    let es = c.args.expressions.now in
    let i = c.loop-e.e-index in (
      sym c.loop-e.invariant.faults ∙ ap (λ (l : List ExprNode). operands_faults s (exprs_in l)) (drop_all i es c.loop-e-test.false),
      joined_done es i (option_map (all_of as_expr) c.loop-e.all) _ (λ (l : List ExprNode). operand_list s (exprs_in l)) c.loop-e-test.false refl c.loop-e.invariant.known,
    )

-- fields, one after the other

pub check_fields-loop-field-preserved : goal.check_fields-loop-field-preserved
check_fields-loop-field-preserved t c =
    let s = scope_of c.args.scope.now in
    let fs = c.args.fields.now in
    let i = c.loop-field.field-index in
    let f = c.field-item.result in
    let within : i < length fs = omega arith in
    let next = left fs i f within c.field-item.is in
    let done = option_map (all_of typed_field) c.loop-field.all in
    let own = option_map (λ (k : Type'). map (declared_field s.path k) f.names.items) (fine (type_verdict s (type_tree f.type_expr))) in
    let push : option_map (all_of typed_field) c.in_ok-all.all ≡ chained done own =
    c.in_ok-all.ensures
    ∙ ap (λ (p : List ℕ). chained done (option_map (λ (k : Type'). map (declared_field p k) c.deref.result.now) (option_map go_type c.in_ok-of.of))) c.path.ensures
    ∙ ap (λ (ns : List Name). chained done (option_map (λ (k : Type'). map (declared_field s.path k) ns) (option_map go_type c.in_ok-of.of))) c.deref.ensures.value
    ∙ ap (λ (o : Option Type'). chained done (option_map (λ (k : Type'). map (declared_field s.path k) f.names.items) o)) (sym c.in_ok-of.ensures.1) in
    record {
      faults = fault_later (fields_faults s (pack_fields (map field_tree (drop i fs)))) (type_faults s (type_tree f.type_expr)) (fields_faults s (pack_fields (map field_tree (drop (i + 1) fs)))) _ c.loop-field.invariant.faults (ap (λ (l : List Field). fields_faults s (pack_fields (map field_tree l))) next) c.in_ok-of.ensures.0;
      known = known_later _ done (option_map (all_of typed_field) c.in_ok-all.all) own (fields_known s (pack_fields (map field_tree (drop i fs)))) (fields_known s (pack_fields (map field_tree (drop (i + 1) fs)))) c.loop-field.invariant.known (ap (λ (l : List Field). fields_known s (pack_fields (map field_tree l))) next) push;
    }

-- literals

pub check_elements-loop-number-preserved : goal.check_elements-loop-number-preserved
check_elements-loop-number-preserved t c =
    let s = scope_of c.args.scope.now in
    let of = option_map (λ (t : Bor GoType). go_type t.now) c.args.of in
    let es = c.args.elements.now in
    let i = c.loop-number.number in
    let e = c.index-elements-number.result in
    let within : i < length es = omega arith in
    let next = left es i e within c.index-elements-number.is in
    let done = option_map (all_of keyed_part) c.loop-number.all in
    let due = element_due of i (key_text e.key) in
    let own = option_map (λ (x : Typed). (key_text e.key, x) ∷ []) (fine (element_verdict s due (value_tree e.value))) in
    let later = ap (λ (n : ℕ). elements_faults s of n (elements_in (drop (i + 1) es))) (add-one i) in
    let known = ap (λ (n : ℕ). elements s of n (elements_in (drop (i + 1) es))) (add-one i) in
    record {
      faults = later ∙ fault_later (elements_faults s of i (elements_in (drop i es))) (element_faults s due (value_tree e.value)) (elements_faults s of (suc i) (elements_in (drop (i + 1) es))) _ c.loop-number.invariant.faults (ap (λ (l : List ElementTree). elements_faults s of i (elements_in l)) next) c.in_ok-value.ensures.0;
      known = known_later _ done (option_map (all_of keyed_part) c.in_ok-all.all) own (elements s of i (elements_in (drop i es))) (elements s of (suc i) (elements_in (drop (i + 1) es))) c.loop-number.invariant.known (ap (λ (l : List ElementTree). elements s of i (elements_in l)) next) (c.in_ok-all.ensures ∙ ap (λ (o : Option Typed). chained done (option_map (λ (x : Typed). (key_text e.key, x) ∷ []) o)) (sym c.in_ok-value.ensures.1))
          ∙ ap (chained (option_map (all_of keyed_part) c.in_ok-all.all)) (sym known);
    }

pub check_elements-returns : goal.check_elements-returns
check_elements-returns t c =
    let s = scope_of c.args.scope.now in
    let of = option_map (λ (t : Bor GoType). go_type t.now) c.args.of in
    let es = c.args.elements.now in
    let i = c.loop-number.number in (
      sym c.loop-number.invariant.faults ∙ ap (λ (l : List ElementTree). elements_faults s of i (elements_in l)) (drop_all i es c.loop-number-test.false),
      joined_done es i (option_map (all_of keyed_part) c.loop-number.all) _ (λ (l : List ElementTree). elements s of i (elements_in l)) c.loop-number-test.false refl c.loop-number.invariant.known,
    )

pub check_element-returns-in_err-elements-in-Value : goal.check_element-returns-in_err-elements-in-Value
check_element-returns-in_err-elements-in-Value t c =
    let s = scope_of c.args.scope.now in
    let place = c.in-Value.place in
    let es = elements_in c.deref.result.now in
    let of = option_map (λ (t : Bor GoType). go_type t.now) c.args.of in
    let due = element_due of c.args.number (key_text c.args.element.now.key) in
    let same : due_of c.element_due-due.result ≡ due = c.element_due-due.ensures ∙ ap (element_due of c.args.number) c.key_text.ensures in
    let inner : option_map (λ (t : Bor GoType). go_type t.now) c.of.result ≡ due_type due = c.of.ensures ∙ ap due_type same in
    let seen : value_tree c.args.element.now.value ≡ value_element place es =
    ap value_tree c.in-Value.is ∙ value_seen place c.in-Value.elements ∙ ap (λ (l : List ElementTree). value_element place (elements_in l)) (sym c.deref.ensures.value) in
    let e = c.in_err-elements-in-Value.field-0.0 in
    let told : Fails e (elements_faults s (due_type due) 0 es) =
    subst (λ (o : Option Type'). Fails e (elements_faults s o 0 es)) inner c.in_err-elements-in-Value.ensures in
    let p = err_from_is_err_and c.from_residual.result c.from_residual.ensures.1 in
    subst (λ (v : Tree). Answers as_expr c.from_residual.result (element_faults s due v) (fine (element_verdict s due v))) (sym seen)
    (rw (p.1, p.2) (fails_front e (elements_faults s (due_type due) 0 es) (broken place (element_verdict s due (value_element place es))) told))

pub check_element-returns-in_ok-elements-in-Value : goal.check_element-returns-in_ok-elements-in-Value
check_element-returns-in_ok-elements-in-Value t c =
    let s = scope_of c.args.scope.now in
    let place = c.in-Value.place in
    let es = elements_in c.deref.result.now in
    let of = option_map (λ (t : Bor GoType). go_type t.now) c.args.of in
    let due = element_due of c.args.number (key_text c.args.element.now.key) in
    let same : due_of c.element_due-due.result ≡ due = c.element_due-due.ensures ∙ ap (element_due of c.args.number) c.key_text.ensures in
    let inner : option_map (λ (t : Bor GoType). go_type t.now) c.of.result ≡ due_type due = c.of.ensures ∙ ap due_type same in
    let seen : value_tree c.args.element.now.value ≡ value_element place es =
    ap value_tree c.in-Value.is ∙ value_seen place c.in-Value.elements ∙ ap (λ (l : List ElementTree). value_element place (elements_in l)) (sym c.deref.ensures.value) in
    let found = option_map (all_of keyed_part) c.in_ok-elements-in-Value.elements in
    let none : elements_faults s (due_type due) 0 es ≡ [] = ap (λ (o : Option Type'). elements_faults s o 0 es) (sym inner) ∙ c.in_ok-elements-in-Value.ensures.0 in
    let known : elements s (due_type due) 0 es ≡ found = ap (λ (o : Option Type'). elements s o 0 es) (sym inner) ∙ c.in_ok-elements-in-Value.ensures.1 in
    let rule = λ (path : List ℕ) (d : Due). asked (untyped_literal path d) found in
    let r = c.untyped_literal_at.result in
    let there = subst (λ (path : List ℕ). Answers as_expr r (broken place (rule path (due_of c.element_due-due.result))) (fine (rule path (due_of c.element_due-due.result)))) c.path.ensures c.untyped_literal_at.ensures in
    let told = subst (λ (d : Due). Answers as_expr r (broken place (rule s.path d)) (fine (rule s.path d))) same there in
    subst (λ (v : Tree). Answers as_expr r (element_faults s due v) (fine (element_verdict s due v))) (sym seen)
    (of_part as_expr r place place (untyped_literal s.path due) (elements_faults s (due_type due) 0 es) (elements s (due_type due) 0 es) found none known refl told)

pub check_expr-returns-in_ok-of-in-CompositeLit : goal.check_expr-returns-in_ok-of-in-CompositeLit
check_expr-returns-in_ok-of-in-CompositeLit t c =
    let place = c.args.e.now.place in
    let s = scope_of c.args.scope.now in
    let a = c.deref-in-CompositeLit.result.now in
    let es = elements_in c.deref-in-CompositeLit-2.result.now in
    literal_answered c.check_literal.result s c.args.e.now c.in-CompositeLit.of _ c.in-CompositeLit.elements a c.deref-in-CompositeLit-2.result.now (option_map go_type c.in_ok-of-in-CompositeLit.of)
    c.in-CompositeLit.is (sym c.deref-in-CompositeLit.ensures) c.deref-in-CompositeLit-2.ensures.value
    c.in_ok-of-in-CompositeLit.ensures.0 c.in_ok-of-in-CompositeLit.ensures.1 c.check_literal.ensures

pub check_literal-returns-in_err-elements : goal.check_literal-returns-in_err-elements
check_literal-returns-in_err-elements t c =
    let s = scope_of c.args.scope.now in
    let of = option_map go_type c.args.of in
    let es = elements_in c.args.elements.now in
    let same : option_map (λ (t : Bor GoType). go_type t.now) c.as_ref.result ≡ of = copied go_type c.as_ref.result ∙ ap (option_map go_type) c.as_ref.ensures.value in
    let e = c.in_err-elements.field-0.0 in
    let told : Fails e (elements_faults s of 0 es) = subst (λ (o : Option Type'). Fails e (elements_faults s o 0 es)) same c.in_err-elements.ensures in
    let p = err_from_is_err_and c.from_residual.result c.from_residual.ensures.1 in
    rw (p.1, p.2) (fails_front e (elements_faults s of 0 es) (broken c.args.place (literal_verdict s of es)) told)
