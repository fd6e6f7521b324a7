use Rattle.std.proofs.Common.{Some, ap, sym, ◌∙◌}
use Rattle.go_ast.specs.Trees as trees
use Rattle.go_ast.specs.Views.{expr_of}
use Rattle.go_ast.specs.Machine.{literal_type}
use Rattle.go_ast.proofs.Rows.{name_seen, selector_seen}
use Rattle.go_pexpr.proofs.Built.{no_type, no_package}
use Rattle.go_pexpr.proofs.build.named_by.Goals as goal

pub returns-in-Name-clause-expr : goal.returns-in-Name-clause-expr
returns-in-Name-clause-expr c =
    let p = c.args.expr.place in
    ap Some c.named.ensures.expr ∙ ap (λ (n : trees.Name). Some (trees.named p n)) c.new.ensures
    ∙ sym (ap (λ k. literal_type (expr_of (record { place = p; kind = k }))) c.in-Name.is ∙ ap literal_type (name_seen p c.in-Name.text))

pub returns-in-Ok-clause-expr : goal.returns-in-Ok-clause-expr
returns-in-Ok-clause-expr c =
    let p = c.args.expr.place in
    let n = c.in-Selector.name in
    ap Some c.qualified.ensures.expr
    ∙ sym (ap (λ k. literal_type (expr_of (record { place = p; kind = k }))) c.in-Selector.is
    ∙ ap literal_type (selector_seen p c.in-Selector.operand n c.into_inner.result (sym c.into_inner.ensures)
    ∙ ap (λ e. trees.selector p e n) c.in-Ok.ensures.name))

pub returns-in-Selector-clause-expr : goal.returns-in-Selector-clause-expr
returns-in-Selector-clause-expr c =
    let p = c.args.expr.place in
    let n = c.in-Selector.name in
    sym (ap (λ k. literal_type (expr_of (record { place = p; kind = k }))) c.in-Selector.is
    ∙ ap literal_type (selector_seen p c.in-Selector.operand n c.into_inner.result (sym c.into_inner.ensures))
    ∙ no_package p (expr_of c.into_inner.result) n c.in-Err.ensures.no_name)

pub returns : goal.returns
returns c = record { expr = sym (no_type c.args.expr c.in_default.not-Name c.in_default.not-Selector); height = λ a e. cc (e) }
