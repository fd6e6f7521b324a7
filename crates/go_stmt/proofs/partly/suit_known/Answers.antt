use Rattle.std.proofs.Common.{◌≡◌, ◌+◌, ◌<◌, ◌∷◌, List, [], Option, length, map, drop, arith, ap, subst}
use Rattle.std.specs.List.{zip}
use Rattle.go_types.specs.Types.{Type'}
use Rattle.go_types.specs.declared.types.GoType.{GoType}
use Rattle.go_typed.specs.Trees as typed
use Rattle.go_typed.specs.Views.{as_expr}
use Rattle.go_typed.specs.declared.expression.TypedExpr.{TypedExpr}
use Rattle.go_expr.proofs.Gathering.{Leads, adds, ends}
use Rattle.go_stmt.specs.Rules.{suited_if}
use Rattle.go_stmt.specs.Views.{due_seen}
use Rattle.go_stmt.proofs.Sequences.{left, none_there, none_left}
use Rattle.go_stmt.proofs.partly.suit_known.Goals as goal

pub loop-value-preserved : goal.loop-value-preserved
loop-value-preserved c =
    let all = c.loop-value.all in
    let due = c.args.due.now in
    let i = c.loop-value.i in
    let one = c.in-Some-get.one.now in
    let value = c.in-Some.value in
    let rest = c.next.new.self.rest.items in
    let whole = map suited_if (zip (map due_seen due) (map as_expr c.args.values.items)) in
    let within : i < length due = c.in-Some-get.ensures.lookup.3.0 in
    let begun = subst (λ (l : List TypedExpr). Leads as_expr all.values.items all.fault (map suited_if (zip (map due_seen (drop i due)) (map as_expr l))) [] whole) c.in-Some.ensures.steps.0 c.loop-value.invariant in
    let before =
    subst (λ (l : List (Option (Option GoType))). Leads as_expr all.values.items all.fault (map suited_if (zip (map due_seen l) (map as_expr (value ∷ rest)))) [] whole)
    (left due i one within c.in-Some-get.ensures.lookup.1) begun in
    adds as_expr all.values.items _ all.fault _ (map suited_if (zip (map due_seen (drop (i + 1) due)) (map as_expr rest))) [] whole (suited_if (due_seen one, as_expr value)) c.suit_if.result
    c.in_ok-add.ensures.values c.in_ok-add.ensures.fault c.suit_if.ensures c.in_ok-add.ensures.given before

pub returns : goal.returns
returns c =
    let all = c.loop-value.all in
    let due = map due_seen (drop c.loop-value.i c.args.due.now) in
    let rest = c.loop-value.value-iterator.rest in
    let whole = map suited_if (zip (map due_seen c.args.due.now) (map as_expr c.args.values.items)) in
    let size : length rest.items ≡ 0 = omega (arith, rest.ok.0, c.in-None.ensures.steps.0) in
    let none : zip due (map as_expr rest.items) ≡ [] = none_left due (map as_expr rest.items) (ap (map as_expr) (none_there rest.items size)) in
    ends as_expr all.values.items all.fault [] whole _
    (subst (λ (l : List (Option (Option Type') × typed.Expr)). Leads as_expr all.values.items all.fault (map suited_if l) [] whole) none c.loop-value.invariant) c.finish-2.ensures
