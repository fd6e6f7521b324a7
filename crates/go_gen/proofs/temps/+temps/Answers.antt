use Rattle.std.proofs.Common.{◌≡◌, ◌+◌, IfOk, ap, sym, ◌∙◌, subst, ℕ, arith}
use Rattle.go_types.specs.Views.{go_type}
use Rattle.go_types.specs.Sizes.{cells}
use Rattle.go_typed.specs.Views.{as_expr, as_exprs, parts_in}
use Rattle.go_gen.specs.Translation.{expr_temps, exprs_temps, parts_temps}
use Rattle.go_gen.proofs.ByKind.{elements_kind, append_kind, literal_kind, call_kind}
use Rattle.go_gen.proofs.temps.+temps.Goals as goal

pub expr_temps-returns-in-Elements : goal.expr_temps-returns-in-Elements
expr_temps-returns-in-Elements t c =
    let count : ℕ = exprs_temps (as_exprs c.deref-in-Elements.result.now) in
    let none : exprs_temps (as_exprs c.deref-in-Elements.result.now) ≡ 0 + exprs_temps (as_exprs c.deref-in-Elements.result.now) = omega arith in
    let is : count ≡ expr_temps (as_expr c.args.e.now) =
    none ∙ ap (λ l. 0 + exprs_temps (as_exprs l)) c.deref-in-Elements.ensures.value ∙ ap expr_temps (sym (elements_kind c.args.e.now c.in-Elements.es c.in-Elements.is)) in
    subst (λ (x : ℕ). IfOk c.exprs_temps.result (λ n. n ≡ x)) is c.exprs_temps.ensures

pub expr_temps-returns-in_ok-exprs_temps-in-Append : goal.expr_temps-returns-in_ok-exprs_temps-in-Append
expr_temps-returns-in_ok-exprs_temps-in-Append t c =
    let e = c.args.e.now in
    let is : c.in_ok-expr_temps-in-Append.field-0 + c.in_ok-exprs_temps-in-Append.field-0 ≡ expr_temps (as_expr e) =
    ap (λ n. n + c.in_ok-exprs_temps-in-Append.field-0) (c.in_ok-expr_temps-in-Append.ensures ∙ ap (λ x. expr_temps (as_expr x)) c.deref-in-Append.ensures)
    ∙ ap (λ n. expr_temps (as_expr c.in-Append.slice.value) + n) (c.in_ok-exprs_temps-in-Append.ensures ∙ ap (λ l. exprs_temps (as_exprs l)) c.deref-in-Append-2.ensures.value)
    ∙ ap expr_temps (sym (append_kind e c.in-Append.slice c.in-Append.es c.in-Append.is)) in
    subst (λ (x : ℕ). IfOk c.sum-in-Append.result (λ n. n ≡ x)) is c.sum-in-Append.ensures

pub expr_temps-returns-in_ok-parts_temps-in-Literal : goal.expr_temps-returns-in_ok-parts_temps-in-Literal
expr_temps-returns-in_ok-parts_temps-in-Literal t c =
    let e = c.args.e.now in
    let is : c.in_ok-cells-in-Literal.field-0 + c.in_ok-parts_temps-in-Literal.field-0 ≡ expr_temps (as_expr e) =
    ap (λ n. n + c.in_ok-parts_temps-in-Literal.field-0) c.in_ok-cells-in-Literal.ensures
    ∙ ap (λ n. cells (go_type e.of) + n) (c.in_ok-parts_temps-in-Literal.ensures ∙ ap (λ l. parts_temps (parts_in l)) c.deref-in-Literal.ensures.value)
    ∙ ap expr_temps (sym (literal_kind e c.in-Literal.parts c.in-Literal.is)) in
    subst (λ (x : ℕ). IfOk c.sum-in-Literal.result (λ n. n ≡ x)) is c.sum-in-Literal.ensures

pub expr_temps-returns-in-Call : goal.expr_temps-returns-in-Call
expr_temps-returns-in-Call t c =
    let is : exprs_temps (as_exprs c.deref-in-Call.result.now) ≡ expr_temps (as_expr c.args.e.now) =
    ap (λ l. exprs_temps (as_exprs l)) c.deref-in-Call.ensures.value ∙ ap expr_temps (sym (call_kind c.args.e.now c.in-Call.field-0 c.in-Call.arguments c.in-Call.is)) in
    subst (λ (x : ℕ). IfOk c.exprs_temps-in-Call.result (λ n. n ≡ x)) is c.exprs_temps-in-Call.ensures
