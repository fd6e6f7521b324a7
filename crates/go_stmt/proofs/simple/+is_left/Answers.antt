use Rattle.std.proofs.Common.{◌≡◌, true, false, Option, Some, None, is_some, Bor, refl, sym, ap, ◌∙◌}
use Rattle.std.specs.Option.{option_map}
use Rattle.go_types.specs.Views.{go_type}
use Rattle.go_types.specs.declared.types.GoType.{GoType}
use Rattle.go_expr.specs.Rules.{slice_element}
use Rattle.go_typed.specs.Trees.{field, index, expr_type, here, to_field}
use Rattle.go_typed.specs.Views.{as_expr}
use Rattle.go_typed.specs.declared.expression.TypedExpr.{TypedExpr}
use Rattle.go_typed.specs.declared.expression.TypedExprKind.{TypedExprKind}
use Rattle.go_typed.proofs.Rows.{field_seen, index_seen}
use Rattle.go_stmt.specs.Rules.{is_array, is_left}
use Rattle.go_stmt.proofs.Lefts.{same_left, element_left, slice_left}
use Rattle.go_stmt.proofs.simple.+is_left.Goals as goal

pub returns-in-Field : goal.returns-in-Field
returns-in-Field t c =
    let value = c.args.value.now in
    let e = c.deref.result.now in
    let n = c.in-Field.field-1 in
    let seen : as_expr value ≡ field (go_type value.of) (as_expr e) n =
    ap (λ (k : TypedExprKind). as_expr (record { of = value.of; kind = k })) c.in-Field.is ∙ field_seen value.of c.in-Field.operand n e (sym c.deref.ensures) in
    c.is_left.ensures ∙ sym (ap is_left seen ∙ same_left (as_expr e) (to_field n here) here)

pub returns-then-is_array : goal.returns-then-is_array
returns-then-is_array t c =
    let value = c.args.value.now in
    let e = c.deref-in-Index.result.now in
    let i = c.in-Index.field-1.value in
    let seen : as_expr value ≡ index (go_type value.of) (as_expr e) (as_expr i) =
    ap (λ (k : TypedExprKind). as_expr (record { of = value.of; kind = k })) c.in-Index.is
    ∙ index_seen value.of c.in-Index.operand c.in-Index.field-1 e i (sym c.deref-in-Index.ensures) refl in
    let array : is_array (expr_type (as_expr e)) ≡ true = sym (ap is_array c.type_in.ensures) ∙ sym c.is_array.ensures ∙ c.if-is_array.true in
    c.is_left-then-is_array.ensures ∙ ap (λ (x : TypedExpr). is_left (as_expr x)) (c.deref-then-is_array.ensures ∙ sym c.deref-in-Index.ensures)
    ∙ sym (ap is_left seen ∙ element_left (go_type value.of) (as_expr e) (as_expr i) array)

mapped_some : {A B : Type 0} (f : A → B) (o : Option A) → is_some (option_map f o) ≡ is_some o
mapped_some f None = refl
mapped_some f (Some x) = refl

pub returns-else-is_array : goal.returns-else-is_array
returns-else-is_array t c =
    let value = c.args.value.now in
    let e = c.deref-in-Index.result.now in
    let i = c.in-Index.field-1.value in
    let seen : as_expr value ≡ index (go_type value.of) (as_expr e) (as_expr i) =
    ap (λ (k : TypedExprKind). as_expr (record { of = value.of; kind = k })) c.in-Index.is
    ∙ index_seen value.of c.in-Index.operand c.in-Index.field-1 e i (sym c.deref-in-Index.ensures) refl in
    let other : is_array (expr_type (as_expr e)) ≡ false = sym (ap is_array c.type_in.ensures) ∙ sym c.is_array.ensures ∙ c.if-is_array.false in
    let whole : option_map (λ (t : Bor GoType). go_type t.now) c.slice_element.result ≡ slice_element (expr_type (as_expr e)) =
    c.slice_element.ensures ∙ ap slice_element c.type_in-in-Index.ensures
    ∙ ap (λ (x : TypedExpr). slice_element (expr_type (as_expr x))) (c.deref-in-Index-2.ensures ∙ sym c.deref-in-Index.ensures) in
    c.is_some.ensures ∙ sym (mapped_some (λ (t : Bor GoType). go_type t.now) c.slice_element.result) ∙ ap is_some whole
    ∙ sym (ap is_left seen ∙ slice_left (go_type value.of) (as_expr e) (as_expr i) other)
