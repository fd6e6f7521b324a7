use Rattle.std.proofs.Common.{ℕ, List, Option, Some, sym, ap, ◌∙◌}
use Rattle.go_ast.specs.Trees.{Name}
use Rattle.go_pstmt.proofs.Lefts.{names_stop, names_step, if_none}
use Rattle.go_pstmt.proofs.simple.names_of.Goals as goal

pub loop-side-preserved : goal.loop-side-preserved
loop-side-preserved c =
    let text : List ℕ → Option Name = λ x. Some (record { text = x; place = c.side-item.result.place }) in
    let named = sym c.in-Some.ensures ∙ ap text (sym c.in_ok-text.ensures) ∙ ap (λ (n : Name). Some n) (sym c.new-in-loop-side.ensures) in
    names_step c.args.sides.now c.loop-side.side-index c.side-item.result c.new-in-loop-side.result c.loop-side.names.items c.loop-side-test.true c.side-item.is c.loop-side.invariant named
    ∙ ap (λ (ns : List Name). Some ns) (sym c.in_ok-push.ensures.items)

pub returns-in_default : goal.returns-in_default
returns-in_default c = sym (names_stop c.args.sides.now c.loop-side.side-index c.side-item.result c.loop-side-test.true c.side-item.is (if_none _ c.text_of.result _ c.text_of.ensures c.in_default.is))
