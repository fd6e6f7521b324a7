use Rattle.std.proofs.Common.{refl, sym, ap, ◌∙◌}
use Rattle.go_ast.specs.Grammar.{is_call}
use Rattle.go_ast.specs.Views.{expr_of}
use Rattle.go_ast.specs.declared.expression.Expr.{Expr}
use Rattle.go_ast.specs.declared.expression.ExprKind.{ExprKind}
use Rattle.go_ast.proofs.Rows.{name_seen, integer_seen, rune_seen, string_seen, parenthesized_seen, literal_seen, conversion_seen, selector_seen, index_seen, cut_seen, type_operand_seen, call_seen, unary_seen, binary_seen}
use Rattle.go_pstmt.proofs.simple.+is_call.Goals as goal

pub returns-in-Parenthesized : goal.returns-in-Parenthesized
returns-in-Parenthesized t c =
    let e = c.args.operand.now in
    c.is_call.ensures ∙ ap (λ (x : Expr). is_call (expr_of x)) c.deref.ensures
    ∙ sym (ap (λ (k : ExprKind). is_call (expr_of (record { place = e.place; kind = k }))) c.in-Parenthesized.is ∙ ap is_call (parenthesized_seen e.place c.in-Parenthesized.inner c.in-Parenthesized.inner.value refl))

pub returns-in-Call : goal.returns-in-Call
returns-in-Call t c =
    let e = c.args.operand.now in
    sym (ap (λ (k : ExprKind). is_call (expr_of (record { place = e.place; kind = k }))) c.in-Call.is ∙ ap is_call (call_seen e.place c.in-Call.field-0 c.in-Call.field-1 c.in-Call.field-0.value refl))

pub returns-in-Name : goal.returns-in-Name
returns-in-Name t c =
    let e = c.args.operand.now in
    sym (ap (λ (k : ExprKind). is_call (expr_of (record { place = e.place; kind = k }))) c.in-Name.is ∙ ap is_call (name_seen e.place c.in-Name.field-0))

pub returns-in-Integer : goal.returns-in-Integer
returns-in-Integer t c =
    let e = c.args.operand.now in
    sym (ap (λ (k : ExprKind). is_call (expr_of (record { place = e.place; kind = k }))) c.in-Integer.is ∙ ap is_call (integer_seen e.place c.in-Integer.field-0))

pub returns-in-Rune : goal.returns-in-Rune
returns-in-Rune t c =
    let e = c.args.operand.now in
    sym (ap (λ (k : ExprKind). is_call (expr_of (record { place = e.place; kind = k }))) c.in-Rune.is ∙ ap is_call (rune_seen e.place c.in-Rune.field-0))

pub returns-in-String : goal.returns-in-String
returns-in-String t c =
    let e = c.args.operand.now in
    sym (ap (λ (k : ExprKind). is_call (expr_of (record { place = e.place; kind = k }))) c.in-String.is ∙ ap is_call (string_seen e.place c.in-String.field-0))

pub returns-in-CompositeLit : goal.returns-in-CompositeLit
returns-in-CompositeLit t c =
    let e = c.args.operand.now in
    sym (ap (λ (k : ExprKind). is_call (expr_of (record { place = e.place; kind = k }))) c.in-CompositeLit.is ∙ ap is_call (literal_seen e.place c.in-CompositeLit.field-0 c.in-CompositeLit.field-1 c.in-CompositeLit.field-2 c.in-CompositeLit.field-0.value refl))

pub returns-in-Conversion : goal.returns-in-Conversion
returns-in-Conversion t c =
    let e = c.args.operand.now in
    sym (ap (λ (k : ExprKind). is_call (expr_of (record { place = e.place; kind = k }))) c.in-Conversion.is ∙ ap is_call (conversion_seen e.place c.in-Conversion.field-0 c.in-Conversion.field-1 c.in-Conversion.field-0.value c.in-Conversion.field-1.value refl refl))

pub returns-in-Selector : goal.returns-in-Selector
returns-in-Selector t c =
    let e = c.args.operand.now in
    sym (ap (λ (k : ExprKind). is_call (expr_of (record { place = e.place; kind = k }))) c.in-Selector.is ∙ ap is_call (selector_seen e.place c.in-Selector.field-0 c.in-Selector.field-1 c.in-Selector.field-0.value refl))

pub returns-in-Index : goal.returns-in-Index
returns-in-Index t c =
    let e = c.args.operand.now in
    sym (ap (λ (k : ExprKind). is_call (expr_of (record { place = e.place; kind = k }))) c.in-Index.is ∙ ap is_call (index_seen e.place c.in-Index.field-0 c.in-Index.field-1 c.in-Index.field-0.value c.in-Index.field-1.value refl refl))

pub returns-in-Cut : goal.returns-in-Cut
returns-in-Cut t c =
    let e = c.args.operand.now in
    sym (ap (λ (k : ExprKind). is_call (expr_of (record { place = e.place; kind = k }))) c.in-Cut.is ∙ ap is_call (cut_seen e.place c.in-Cut.field-0 c.in-Cut.field-1 c.in-Cut.field-2 c.in-Cut.field-0.value refl))

pub returns-in-Type : goal.returns-in-Type
returns-in-Type t c =
    let e = c.args.operand.now in
    sym (ap (λ (k : ExprKind). is_call (expr_of (record { place = e.place; kind = k }))) c.in-Type.is ∙ ap is_call (type_operand_seen e.place c.in-Type.field-0 c.in-Type.field-0.value refl))

pub returns-in-Unary : goal.returns-in-Unary
returns-in-Unary t c =
    let e = c.args.operand.now in
    sym (ap (λ (k : ExprKind). is_call (expr_of (record { place = e.place; kind = k }))) c.in-Unary.is ∙ ap is_call (unary_seen e.place c.in-Unary.field-0 c.in-Unary.field-1 c.in-Unary.field-1.value refl))

pub returns-in-Binary : goal.returns-in-Binary
returns-in-Binary t c =
    let e = c.args.operand.now in
    sym (ap (λ (k : ExprKind). is_call (expr_of (record { place = e.place; kind = k }))) c.in-Binary.is ∙ ap is_call (binary_seen e.place c.in-Binary.field-0 c.in-Binary.field-1 c.in-Binary.field-2 c.in-Binary.field-1.value c.in-Binary.field-2.value refl refl))
