use Rattle.std.proofs.Common.{List, [], map, subst}
use Rattle.go_typed.specs.Views.{as_expr}
use Rattle.go_typed.specs.declared.expression.TypedExpr.{TypedExpr}
use Rattle.go_expr.specs.Rules.{printable}
use Rattle.go_expr.proofs.Gathering.{Leads, adds}
use Rattle.go_expr.proofs.call.all_printable.Goals as goal

pub loop-argument-preserved : goal.loop-argument-preserved
loop-argument-preserved c =
    let all = c.loop-argument.all in
    let whole = map printable (map as_expr c.args.arguments.items) in
    let before = subst (λ (l : List TypedExpr). Leads as_expr all.values.items all.fault (map printable (map as_expr l)) [] whole) c.in-Some.ensures.steps.0 c.loop-argument.invariant in
    adds as_expr all.values.items _ all.fault _ (map printable (map as_expr c.next.new.self.rest.items)) [] whole (printable (as_expr c.in-Some.argument)) c.printable.result
    c.in_ok-add.ensures.values c.in_ok-add.ensures.fault c.printable.ensures c.in_ok-add.ensures.given before
