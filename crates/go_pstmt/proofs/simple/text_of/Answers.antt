use Rattle.std.proofs.Common.{ℕ, List, Option, Some, refl, sym, ap, ◌∙◌}
use Rattle.go_ast.specs.Trees.{Name}
use Rattle.go_ast.specs.Machine.{name_if}
use Rattle.go_ast.specs.Views.{expr_of}
use Rattle.go_ast.specs.declared.expression.ExprKind.{ExprKind}
use Rattle.go_ast.proofs.Rows.{name_seen, integer_seen, rune_seen, string_seen, parenthesized_seen, literal_seen, conversion_seen, selector_seen, index_seen, cut_seen, type_operand_seen, call_seen, unary_seen, binary_seen}
use Rattle.go_pstmt.proofs.simple.text_of.Goals as goal

pub returns-in-Integer : goal.returns-in-Integer
returns-in-Integer c =
    let e = c.args.operand.now in
    sym (ap (λ (k : ExprKind). name_if (expr_of (record { place = e.place; kind = k }))) c.in-Integer.is ∙ ap name_if (integer_seen e.place c.in-Integer.field-0))

pub returns-in-Rune : goal.returns-in-Rune
returns-in-Rune c =
    let e = c.args.operand.now in
    sym (ap (λ (k : ExprKind). name_if (expr_of (record { place = e.place; kind = k }))) c.in-Rune.is ∙ ap name_if (rune_seen e.place c.in-Rune.field-0))

pub returns-in-String : goal.returns-in-String
returns-in-String c =
    let e = c.args.operand.now in
    sym (ap (λ (k : ExprKind). name_if (expr_of (record { place = e.place; kind = k }))) c.in-String.is ∙ ap name_if (string_seen e.place c.in-String.field-0))

pub returns-in-Parenthesized : goal.returns-in-Parenthesized
returns-in-Parenthesized c =
    let e = c.args.operand.now in
    sym (ap (λ (k : ExprKind). name_if (expr_of (record { place = e.place; kind = k }))) c.in-Parenthesized.is ∙ ap name_if (parenthesized_seen e.place c.in-Parenthesized.field-0 c.in-Parenthesized.field-0.value refl))

pub returns-in-CompositeLit : goal.returns-in-CompositeLit
returns-in-CompositeLit c =
    let e = c.args.operand.now in
    sym (ap (λ (k : ExprKind). name_if (expr_of (record { place = e.place; kind = k }))) c.in-CompositeLit.is ∙ ap name_if (literal_seen e.place c.in-CompositeLit.field-0 c.in-CompositeLit.field-1 c.in-CompositeLit.field-2 c.in-CompositeLit.field-0.value refl))

pub returns-in-Conversion : goal.returns-in-Conversion
returns-in-Conversion c =
    let e = c.args.operand.now in
    sym (ap (λ (k : ExprKind). name_if (expr_of (record { place = e.place; kind = k }))) c.in-Conversion.is ∙ ap name_if (conversion_seen e.place c.in-Conversion.field-0 c.in-Conversion.field-1 c.in-Conversion.field-0.value c.in-Conversion.field-1.value refl refl))

pub returns-in-Selector : goal.returns-in-Selector
returns-in-Selector c =
    let e = c.args.operand.now in
    sym (ap (λ (k : ExprKind). name_if (expr_of (record { place = e.place; kind = k }))) c.in-Selector.is ∙ ap name_if (selector_seen e.place c.in-Selector.field-0 c.in-Selector.field-1 c.in-Selector.field-0.value refl))

pub returns-in-Index : goal.returns-in-Index
returns-in-Index c =
    let e = c.args.operand.now in
    sym (ap (λ (k : ExprKind). name_if (expr_of (record { place = e.place; kind = k }))) c.in-Index.is ∙ ap name_if (index_seen e.place c.in-Index.field-0 c.in-Index.field-1 c.in-Index.field-0.value c.in-Index.field-1.value refl refl))

pub returns-in-Cut : goal.returns-in-Cut
returns-in-Cut c =
    let e = c.args.operand.now in
    sym (ap (λ (k : ExprKind). name_if (expr_of (record { place = e.place; kind = k }))) c.in-Cut.is ∙ ap name_if (cut_seen e.place c.in-Cut.field-0 c.in-Cut.field-1 c.in-Cut.field-2 c.in-Cut.field-0.value refl))

pub returns-in-Type : goal.returns-in-Type
returns-in-Type c =
    let e = c.args.operand.now in
    sym (ap (λ (k : ExprKind). name_if (expr_of (record { place = e.place; kind = k }))) c.in-Type.is ∙ ap name_if (type_operand_seen e.place c.in-Type.field-0 c.in-Type.field-0.value refl))

pub returns-in-Call : goal.returns-in-Call
returns-in-Call c =
    let e = c.args.operand.now in
    sym (ap (λ (k : ExprKind). name_if (expr_of (record { place = e.place; kind = k }))) c.in-Call.is ∙ ap name_if (call_seen e.place c.in-Call.field-0 c.in-Call.field-1 c.in-Call.field-0.value refl))

pub returns-in-Unary : goal.returns-in-Unary
returns-in-Unary c =
    let e = c.args.operand.now in
    sym (ap (λ (k : ExprKind). name_if (expr_of (record { place = e.place; kind = k }))) c.in-Unary.is ∙ ap name_if (unary_seen e.place c.in-Unary.field-0 c.in-Unary.field-1 c.in-Unary.field-1.value refl))

pub returns-in-Binary : goal.returns-in-Binary
returns-in-Binary c =
    let e = c.args.operand.now in
    sym (ap (λ (k : ExprKind). name_if (expr_of (record { place = e.place; kind = k }))) c.in-Binary.is ∙ ap name_if (binary_seen e.place c.in-Binary.field-0 c.in-Binary.field-1 c.in-Binary.field-2 c.in-Binary.field-1.value c.in-Binary.field-2.value refl refl))

pub returns-in-Name : goal.returns-in-Name
returns-in-Name c =
    let e = c.args.operand.now in
    let named : List ℕ → Option Name = λ x. Some (record { text = x; place = e.place }) in
    ap named c.as_str.ensures
    ∙ sym (ap (λ (k : ExprKind). name_if (expr_of (record { place = e.place; kind = k }))) c.in-Name.is ∙ ap name_if (name_seen e.place c.in-Name.text))
