use Rattle.std.proofs.Common.{◌≡◌, false, refl, sym, ap, ◌∙◌}
use Rattle.go_ast.specs.Trees as trees
use Rattle.go_ast.specs.Machine.{is_some, literal_type}
use Rattle.go_text.specs.declared.place.Place.{Place}
use Rattle.go_ast.specs.declared.expression.Expr.{Expr}
use Rattle.go_ast.specs.declared.expression.ExprKind.{ExprKind, Name}
use Rattle.go_ast.specs.Views.{expr_at, expr_of}
use Rattle.go_ast.proofs.Rows.{name_seen, selector_seen}
use Rattle.go_pexpr.proofs.Built.{no_type}
use Rattle.go_pexpr.proofs.operators.is_type.Goals as goal

pub returns-in-Name : goal.returns-in-Name
returns-in-Name c =
    let p = c.args.expr.now.place in
    sym (ap (λ k. is_some (literal_type (expr_of (record { place = p; kind = k })))) c.in-Name.is ∙ ap (λ e. is_some (literal_type e)) (name_seen p c.in-Name.field-0))

pub returns-in-Name-matches : goal.returns-in-Name-matches
returns-in-Name-matches c =
    let p = c.args.expr.now.place in
    let n = c.in-Selector.field-1 in
    let v = c.in-Selector.operand.value in
    let named = ap expr_of (sym c.deref.ensures) ∙ ap (λ k. expr_of (record { place = c.deref.result.now.place; kind = k })) c.in-Name-matches.is ∙ name_seen c.deref.result.now.place c.in-Name-matches.field-0 in
    sym (ap (λ k. is_some (literal_type (expr_of (record { place = p; kind = k })))) c.in-Selector.is
    ∙ ap (λ e. is_some (literal_type e)) (selector_seen p c.in-Selector.operand n v refl ∙ ap (λ e. trees.selector p e n) named))

by_kind : (k : ExprKind) (q p : Place) (n : trees.Name) → ((x : _) → k ≡ Name x → ⊥) → is_some (literal_type (trees.selector p (expr_at k q) n)) ≡ false
by_kind (Name x) q p n never = absurd (never x refl)
by_kind _ q p n never = refl

no_name : (e : Expr) (p : Place) (n : trees.Name) → ((x : _) → e.kind ≡ Name x → ⊥) → is_some (literal_type (trees.selector p (expr_of e) n)) ≡ false
unfolding expr_of
no_name e p n never = by_kind e.kind e.place p n never

pub returns-in_default-matches : goal.returns-in_default-matches
returns-in_default-matches c =
    let p = c.args.expr.now.place in
    let n = c.in-Selector.field-1 in
    sym (ap (λ k. is_some (literal_type (expr_of (record { place = p; kind = k })))) c.in-Selector.is
    ∙ ap (λ e. is_some (literal_type e)) (selector_seen p c.in-Selector.operand n c.deref.result.now (sym c.deref.ensures))
    ∙ no_name c.deref.result.now p n c.in_default-matches.not-Name)

pub returns-in_default : goal.returns-in_default
returns-in_default c = sym (ap is_some (no_type c.args.expr.now c.in_default.not-Name c.in_default.not-Selector))
