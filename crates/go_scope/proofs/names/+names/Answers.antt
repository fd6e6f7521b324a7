use Rattle.std.proofs.Common.{◌++◌, false, map, sym, ap, ◌∙◌}
use Rattle.go_ast.specs.Trees.{pack_elements, pack_fields}
use Rattle.go_ast.specs.declared.expression.Bound.{Bound}
use Rattle.go_ast.specs.declared.expression.ExprKind.{ExprKind}
use Rattle.go_ast.specs.declared.expression.TypeKind.{TypeKind}
use Rattle.go_ast.specs.Views.{type_of, expr_of, bound_of, exprs_in, value_of, element_of, field_of}
use Rattle.go_ast.proofs.Rows.{array_seen, struct_seen, literal_seen, conversion_seen, index_seen, bound_seen, cut_seen, type_operand_seen, call_seen, binary_seen, expression_seen, value_seen}
use Rattle.go_scope.specs.Names.{in_type, in_fields, in_expr, in_bound, in_exprs, in_elements, in_element, used}
use Rattle.go_scope.proofs.Uses.{added_once, added_twice, added_thrice}
use Rattle.go_scope.proofs.names.+names.Goals as goal

pub add_operand_names-returns-in_ok-add_type_names-in-CompositeLit : goal.add_operand_names-returns-in_ok-add_type_names-in-CompositeLit
add_operand_names-returns-in_ok-add_type_names-in-CompositeLit t c =
    let place = c.args.e.now.place in
    let arm = c.in-CompositeLit in
    let of = c.deref-in-CompositeLit.result.now in
    let elements = c.deref-in-CompositeLit-2.result.now in
    added_twice c.add_element_names.result (map used c.args.names.now.items) (map used c.add_type_names.new.names.items) (map used c.add_element_names.new.names.items)
    (in_type (type_of of)) (in_elements (pack_elements (map element_of elements))) (in_expr c.args.dotted (expr_of c.args.e.now))
    c.in_ok-add_type_names-in-CompositeLit.ensures c.add_element_names.ensures
    (ap (λ (k : ExprKind). in_expr c.args.dotted (expr_of (record { place = place; kind = k }))) arm.is
    ∙ ap (in_expr c.args.dotted) (literal_seen place arm.of arm.field-1 arm.elements of (sym c.deref-in-CompositeLit.ensures))
    ∙ ap (λ es. in_type (type_of of) ++ in_elements (pack_elements (map element_of es))) (sym c.deref-in-CompositeLit-2.ensures.value))

pub add_operand_names-returns-in_ok-add_type_names-in-Conversion : goal.add_operand_names-returns-in_ok-add_type_names-in-Conversion
add_operand_names-returns-in_ok-add_type_names-in-Conversion t c =
    let place = c.args.e.now.place in
    let arm = c.in-Conversion in
    let to = c.deref-in-Conversion.result.now in
    let operand = c.deref-in-Conversion-2.result.now in
    added_twice c.add_operand_names-in-Conversion.result (map used c.args.names.now.items) (map used c.add_type_names-in-Conversion.new.names.items) (map used c.add_operand_names-in-Conversion.new.names.items)
    (in_type (type_of to)) (in_expr false (expr_of operand)) (in_expr c.args.dotted (expr_of c.args.e.now))
    c.in_ok-add_type_names-in-Conversion.ensures c.add_operand_names-in-Conversion.ensures
    (ap (λ (k : ExprKind). in_expr c.args.dotted (expr_of (record { place = place; kind = k }))) arm.is
    ∙ ap (in_expr c.args.dotted) (conversion_seen place arm.to arm.operand to operand (sym c.deref-in-Conversion.ensures) (sym c.deref-in-Conversion-2.ensures)))

pub add_operand_names-returns-in_ok-add_operand_names-in-Index : goal.add_operand_names-returns-in_ok-add_operand_names-in-Index
add_operand_names-returns-in_ok-add_operand_names-in-Index t c =
    let place = c.args.e.now.place in
    let arm = c.in-Index in
    let operand = c.deref-in-Index.result.now in
    let index = c.deref-in-Index-2.result.now in
    added_twice c.add_operand_names-in-Index-2.result (map used c.args.names.now.items) (map used c.add_operand_names-in-Index.new.names.items) (map used c.add_operand_names-in-Index-2.new.names.items)
    (in_expr false (expr_of operand)) (in_expr false (expr_of index)) (in_expr c.args.dotted (expr_of c.args.e.now))
    c.in_ok-add_operand_names-in-Index.ensures c.add_operand_names-in-Index-2.ensures
    (ap (λ (k : ExprKind). in_expr c.args.dotted (expr_of (record { place = place; kind = k }))) arm.is
    ∙ ap (in_expr c.args.dotted) (index_seen place arm.operand arm.index operand index (sym c.deref-in-Index.ensures) (sym c.deref-in-Index-2.ensures)))

pub add_operand_names-returns-in_ok-add_bound_names-in-Cut : goal.add_operand_names-returns-in_ok-add_bound_names-in-Cut
add_operand_names-returns-in_ok-add_bound_names-in-Cut t c =
    let place = c.args.e.now.place in
    let arm = c.in-Cut in
    let operand = c.deref-in-Cut.result.now in
    added_thrice c.add_bound_names-in-Cut.result (map used c.args.names.now.items) (map used c.add_operand_names-in-Cut.new.names.items) (map used c.add_bound_names.new.names.items) (map used c.add_bound_names-in-Cut.new.names.items)
    (in_expr false (expr_of operand)) (in_bound (bound_of arm.low)) (in_bound (bound_of arm.high)) (in_expr c.args.dotted (expr_of c.args.e.now))
    c.in_ok-add_operand_names-in-Cut.ensures c.in_ok-add_bound_names-in-Cut.ensures c.add_bound_names-in-Cut.ensures
    (ap (λ (k : ExprKind). in_expr c.args.dotted (expr_of (record { place = place; kind = k }))) arm.is
    ∙ ap (in_expr c.args.dotted) (cut_seen place arm.operand arm.low arm.high operand (sym c.deref-in-Cut.ensures)))

pub add_operand_names-returns-in_ok-add_operand_names-in-Call : goal.add_operand_names-returns-in_ok-add_operand_names-in-Call
add_operand_names-returns-in_ok-add_operand_names-in-Call t c =
    let place = c.args.e.now.place in
    let arm = c.in-Call in
    let callee = c.deref-in-Call.result.now in
    let arguments = c.deref-in-Call-2.result.now in
    added_twice c.add_all_names.result (map used c.args.names.now.items) (map used c.add_operand_names-in-Call.new.names.items) (map used c.add_all_names.new.names.items)
    (in_expr false (expr_of callee)) (in_exprs (exprs_in arguments)) (in_expr c.args.dotted (expr_of c.args.e.now))
    c.in_ok-add_operand_names-in-Call.ensures c.add_all_names.ensures
    (ap (λ (k : ExprKind). in_expr c.args.dotted (expr_of (record { place = place; kind = k }))) arm.is
    ∙ ap (in_expr c.args.dotted) (call_seen place arm.callee arm.arguments callee (sym c.deref-in-Call.ensures))
    ∙ ap (λ es. in_expr false (expr_of callee) ++ in_exprs (exprs_in es)) (sym c.deref-in-Call-2.ensures.value))

pub add_operand_names-returns-in_ok-add_operand_names-in-Binary : goal.add_operand_names-returns-in_ok-add_operand_names-in-Binary
add_operand_names-returns-in_ok-add_operand_names-in-Binary t c =
    let place = c.args.e.now.place in
    let arm = c.in-Binary in
    let left = c.deref-in-Binary.result.now in
    let right = c.deref-in-Binary-2.result.now in
    added_twice c.add_operand_names-in-Binary-2.result (map used c.args.names.now.items) (map used c.add_operand_names-in-Binary.new.names.items) (map used c.add_operand_names-in-Binary-2.new.names.items)
    (in_expr false (expr_of left)) (in_expr false (expr_of right)) (in_expr c.args.dotted (expr_of c.args.e.now))
    c.in_ok-add_operand_names-in-Binary.ensures c.add_operand_names-in-Binary-2.ensures
    (ap (λ (k : ExprKind). in_expr c.args.dotted (expr_of (record { place = place; kind = k }))) arm.is
    ∙ ap (in_expr c.args.dotted) (binary_seen place arm.field-0 arm.left arm.right left right (sym c.deref-in-Binary.ensures) (sym c.deref-in-Binary-2.ensures)))

pub add_type_names-returns-in_ok-add_operand_names-in-Array : goal.add_type_names-returns-in_ok-add_operand_names-in-Array
add_type_names-returns-in_ok-add_operand_names-in-Array t c =
    let place = c.args.t.now.place in
    let arm = c.in-Array in
    let length = c.deref.result.now in
    let item = c.deref-in-Array.result.now in
    added_twice c.add_type_names.result (map used c.args.names.now.items) (map used c.add_operand_names.new.names.items) (map used c.add_type_names.new.names.items)
    (in_expr false (expr_of length)) (in_type (type_of item)) (in_type (type_of c.args.t.now))
    c.in_ok-add_operand_names-in-Array.ensures c.add_type_names.ensures
    (ap (λ (k : TypeKind). in_type (type_of (record { place = place; kind = k }))) arm.is
    ∙ ap in_type (array_seen place arm.length arm.item length item (sym c.deref.ensures) (sym c.deref-in-Array.ensures)))

pub add_type_names-returns-in-Struct : goal.add_type_names-returns-in-Struct
add_type_names-returns-in-Struct t c =
    let place = c.args.t.now.place in
    let fields = c.deref-in-Struct.result.now in
    added_once c.add_field_names.result (map used c.args.names.now.items) (map used c.add_field_names.new.names.items)
    (in_fields (pack_fields (map field_of fields))) (in_type (type_of c.args.t.now))
    c.add_field_names.ensures
    (ap (λ (k : TypeKind). in_type (type_of (record { place = place; kind = k }))) c.in-Struct.is
    ∙ ap in_type (struct_seen place c.in-Struct.fields)
    ∙ ap (λ fs. in_fields (pack_fields (map field_of fs))) (sym c.deref-in-Struct.ensures.value))

pub add_operand_names-returns-in-Type : goal.add_operand_names-returns-in-Type
add_operand_names-returns-in-Type t c =
    let place = c.args.e.now.place in
    let of = c.deref-in-Type.result.now in
    added_once c.add_type_names-in-Type.result (map used c.args.names.now.items) (map used c.add_type_names-in-Type.new.names.items)
    (in_type (type_of of)) (in_expr c.args.dotted (expr_of c.args.e.now))
    c.add_type_names-in-Type.ensures
    (ap (λ (k : ExprKind). in_expr c.args.dotted (expr_of (record { place = place; kind = k }))) c.in-Type.is
    ∙ ap (in_expr c.args.dotted) (type_operand_seen place c.in-Type.of of (sym c.deref-in-Type.ensures)))

pub add_bound_names-returns-in-At : goal.add_bound_names-returns-in-At
add_bound_names-returns-in-At t c =
    let e = c.deref.result.now in
    added_once c.add_operand_names.result (map used c.args.names.now.items) (map used c.add_operand_names.new.names.items)
    (in_expr false (expr_of e)) (in_bound (bound_of c.args.bound.now))
    c.add_operand_names.ensures
    (ap (λ (b : Bound). in_bound (bound_of b)) c.in-At.is ∙ ap in_bound (bound_seen c.in-At.e e (sym c.deref.ensures)))

pub add_value_names-returns-in-Expression : goal.add_value_names-returns-in-Expression
add_value_names-returns-in-Expression t c =
    added_once c.add_operand_names.result (map used c.args.names.now.items) (map used c.add_operand_names.new.names.items)
    (in_expr false (expr_of c.in-Expression.e)) (in_element (value_of c.args.value.now))
    c.add_operand_names.ensures
    (ap (λ v. in_element (value_of v)) c.in-Expression.is ∙ ap in_element (expression_seen c.in-Expression.e))

pub add_value_names-returns-in-Value : goal.add_value_names-returns-in-Value
add_value_names-returns-in-Value t c =
    let elements = c.deref.result.now in
    added_once c.add_element_names.result (map used c.args.names.now.items) (map used c.add_element_names.new.names.items)
    (in_elements (pack_elements (map element_of elements))) (in_element (value_of c.args.value.now))
    c.add_element_names.ensures
    (ap (λ v. in_element (value_of v)) c.in-Value.is ∙ ap in_element (value_seen c.in-Value.field-0 c.in-Value.elements)
    ∙ ap (λ es. in_elements (pack_elements (map element_of es))) (sym c.deref.ensures.value))
