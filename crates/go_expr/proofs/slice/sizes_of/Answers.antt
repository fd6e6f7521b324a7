use Rattle.std.proofs.Common.{◌≡◌, List, map, sym, ◌∙◌, subst}
use Rattle.go_typed.specs.Views.{as_expr}
use Rattle.go_typed.specs.declared.expression.TypedExpr.{TypedExpr}
use Rattle.go_expr.specs.Rules.{size_verdict}
use Rattle.go_expr.proofs.Gathering.{Leads, begins, adds}
use Rattle.go_expr.proofs.slice.sizes_of.Goals as goal

pub loop-size-init : goal.loop-size-init
loop-size-init c =
    let same : c.into_iter-size-iterator.result.rest.items ≡ c.args.sizes.items = cc in
    λ ks e.
    let whole = map size_verdict (map as_expr c.args.sizes.items) in
    subst (λ (l : List TypedExpr). Leads as_expr c.new-all.result.values.items c.new-all.result.fault (map size_verdict (map as_expr l)) ks whole) (sym same)
    (begins as_expr c.new-all.result.values.items c.new-all.result.fault ks whole c.new-all.ensures.values (c.new-all.ensures.fault ∙ e))

pub loop-size-preserved : goal.loop-size-preserved
loop-size-preserved c = λ ks e.
    let all = c.loop-size.all in
    let whole = map size_verdict (map as_expr c.args.sizes.items) in
    let before = subst (λ (l : List TypedExpr). Leads as_expr all.values.items all.fault (map size_verdict (map as_expr l)) ks whole) c.in-Some.ensures.steps.0 (c.loop-size.invariant ks e) in
    adds as_expr all.values.items _ all.fault _ (map size_verdict (map as_expr c.next.new.self.rest.items)) ks whole (size_verdict (as_expr c.in-Some.size)) c.size_of.result
    c.in_ok-add.ensures.values c.in_ok-add.ensures.fault c.size_of.ensures c.in_ok-add.ensures.given before
