use Rattle.std.proofs.Common.{◌≡◌, ◌+◌, ◌<◌, ◌∷◌, List, [], length, map, drop, subst, arith}
use Rattle.std.specs.List.{zip}
use Rattle.go_types.specs.Views.{go_type}
use Rattle.go_types.specs.declared.types.GoType.{GoType}
use Rattle.go_types.specs.Types.{Type'}
use Rattle.go_typed.specs.Views.{as_expr}
use Rattle.go_typed.specs.declared.expression.TypedExpr.{TypedExpr}
use Rattle.go_expr.specs.Rules.{assigned}
use Rattle.go_expr.specs.Views.{Gives}
use Rattle.go_expr.proofs.Gathering.{Leads, adds}
use Rattle.go_expr.proofs.Lists.{left}
use Rattle.go_expr.proofs.call.all_assigned.Goals as goal

pub loop-of-preserved : goal.loop-of-preserved
loop-of-preserved c =
    let all = c.loop-of.all in
    let types = c.args.parameters.now in
    let i = c.loop-of.of-index in
    let of = c.of-item.result in
    let within : i < length types = omega arith in
    let rest = c.next.new.self.rest.items in
    let steps : c.loop-of.rest.rest.items ≡ c.in-Some.argument ∷ rest = c.in-Some.ensures.items in
    let whole = map (λ k. assigned k.0 k.1) (zip (map go_type types) (map as_expr c.args.arguments.items)) in
    let begun = subst (λ (l : List TypedExpr). Leads as_expr all.values.items all.fault (map (λ k. assigned k.0 k.1) (zip (map go_type (drop i types)) (map as_expr l))) [] whole) steps c.loop-of.invariant in
    let before =
    subst (λ (l : List GoType). Leads as_expr all.values.items all.fault (map (λ k. assigned k.0 k.1) (zip (map go_type l) (map as_expr (c.in-Some.argument ∷ rest)))) [] whole)
    (left types i of within c.of-item.is) begun in
    let given = subst (λ (t : Type'). Gives as_expr c.assigned.result (assigned t (as_expr c.in-Some.argument))) c.in_ok-copy.ensures c.assigned.ensures in
    adds as_expr all.values.items _ all.fault _ (map (λ k. assigned k.0 k.1) (zip (map go_type (drop (i + 1) types)) (map as_expr rest))) [] whole (assigned (go_type of) (as_expr c.in-Some.argument)) c.assigned.result
    c.in_ok-add.ensures.values c.in_ok-add.ensures.fault given c.in_ok-add.ensures.given before
