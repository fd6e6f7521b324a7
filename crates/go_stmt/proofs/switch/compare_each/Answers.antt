use Rattle.std.proofs.Common.{◌≡◌, List, [], length, map, arith, subst}
use Rattle.go_types.specs.Views.{go_type}
use Rattle.go_typed.specs.Views.{as_expr}
use Rattle.go_typed.specs.declared.expression.TypedExpr.{TypedExpr}
use Rattle.go_expr.proofs.Gathering.{Leads, adds, ends}
use Rattle.go_stmt.specs.Rules.{case_value}
use Rattle.go_stmt.proofs.Sequences.{none_there}
use Rattle.go_stmt.proofs.switch.compare_each.Goals as goal

pub loop-value-preserved : goal.loop-value-preserved
loop-value-preserved c =
    let all = c.loop-value.all in
    let value = c.in-Some.value in
    let rest = c.next.new.self.rest.items in
    let rule = case_value (go_type c.args.of.now) in
    let whole = map rule (map as_expr c.args.values.items) in
    let begun = subst (λ (l : List TypedExpr). Leads as_expr all.values.items all.fault (map rule (map as_expr l)) [] whole) c.in-Some.ensures.steps.0 c.loop-value.invariant in
    adds as_expr all.values.items _ all.fault _ (map rule (map as_expr rest)) [] whole (rule (as_expr value)) c.case_value.result
    c.in_ok-add.ensures.values c.in_ok-add.ensures.fault c.case_value.ensures c.in_ok-add.ensures.given begun

pub returns : goal.returns
returns c =
    let all = c.loop-value.all in
    let rest = c.loop-value.value-iterator.rest in
    let rule = case_value (go_type c.args.of.now) in
    let whole = map rule (map as_expr c.args.values.items) in
    let size : length rest.items ≡ 0 = omega (arith, rest.ok.0, c.in-None.ensures.steps.0) in
    ends as_expr all.values.items all.fault [] whole _
    (subst (λ (l : List TypedExpr). Leads as_expr all.values.items all.fault (map rule (map as_expr l)) [] whole) (none_there rest.items size) c.loop-value.invariant) c.finish.ensures
