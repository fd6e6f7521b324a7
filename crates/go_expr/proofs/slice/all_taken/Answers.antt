use Rattle.std.proofs.Common.{List, [], map, subst}
use Rattle.go_types.specs.Types.{Type'}
use Rattle.go_types.specs.Views.{go_type}
use Rattle.go_typed.specs.Views.{as_expr}
use Rattle.go_typed.specs.declared.expression.TypedExpr.{TypedExpr}
use Rattle.go_expr.specs.Rules.{assigned}
use Rattle.go_expr.specs.Views.{Gives}
use Rattle.go_expr.proofs.Gathering.{Leads, adds}
use Rattle.go_expr.proofs.slice.all_taken.Goals as goal

pub loop-argument-preserved : goal.loop-argument-preserved
loop-argument-preserved c =
    let all = c.loop-argument.all in
    let of = go_type c.args.of.now in
    let whole = map (assigned of) (map as_expr c.args.arguments.rest.items) in
    let before = subst (λ (l : List TypedExpr). Leads as_expr all.values.items all.fault (map (assigned of) (map as_expr l)) [] whole) c.in-Some.ensures.steps.0 c.loop-argument.invariant in
    let given = subst (λ (t : Type'). Gives as_expr c.assigned.result (assigned t (as_expr c.in-Some.argument))) c.in_ok-copy.ensures c.assigned.ensures in
    adds as_expr all.values.items _ all.fault _ (map (assigned of) (map as_expr c.next.new.self.rest.items)) [] whole (assigned of (as_expr c.in-Some.argument)) c.assigned.result
    c.in_ok-add.ensures.values c.in_ok-add.ensures.fault given c.in_ok-add.ensures.given before
