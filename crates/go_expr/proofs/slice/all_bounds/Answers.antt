use Rattle.std.proofs.Common.{List, [], map, subst}
use Rattle.go_typed.specs.Views.{as_expr}
use Rattle.go_typed.specs.declared.expression.TypedExpr.{TypedExpr}
use Rattle.go_expr.specs.Rules.{bound_verdict}
use Rattle.go_expr.proofs.Gathering.{Leads, adds}
use Rattle.go_expr.proofs.slice.all_bounds.Goals as goal

pub loop-bound-preserved : goal.loop-bound-preserved
loop-bound-preserved c =
    let all = c.loop-bound.all in
    let rule = bound_verdict c.args.length in
    let whole = map rule (map as_expr c.args.bounds.items) in
    let before = subst (λ (l : List TypedExpr). Leads as_expr all.values.items all.fault (map rule (map as_expr l)) [] whole) c.in-Some.ensures.steps.0 c.loop-bound.invariant in
    adds as_expr all.values.items _ all.fault _ (map rule (map as_expr c.next.new.self.rest.items)) [] whole (rule (as_expr c.in-Some.bound)) c.bound_of.result
    c.in_ok-add.ensures.values c.in_ok-add.ensures.fault c.bound_of.ensures c.in_ok-add.ensures.given before
