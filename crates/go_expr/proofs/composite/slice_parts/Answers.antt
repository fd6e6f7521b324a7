use Rattle.std.proofs.Common.{◌≡◌, ℕ, List, Option, map, ap, ◌∙◌, subst}
use Rattle.go_text.specs.declared.fault.FaultKind.TheVariants.{LeftOut}
use Rattle.go_types.specs.Types.{Type'}
use Rattle.go_types.specs.Views.{go_type}
use Rattle.go_typed.specs.Trees.{Expr}
use Rattle.go_typed.specs.Views.{as_expr}
use Rattle.go_expr.specs.Known.{Verdict}
use Rattle.go_expr.specs.Rules.{assigned, any_keyed, when, least}
use Rattle.go_expr.specs.Views.{Gives, keyed_part}
use Rattle.go_expr.specs.declared.composite.Element.{Element}
use Rattle.go_expr.proofs.Gathering.{Leads, begins, adds}
use Rattle.go_expr.proofs.composite.slice_parts.Goals as goal

abbrev taken : Type' → Option (List ℕ) × Expr → Verdict Expr
taken of e = assigned of e.1

pub loop-element-init : goal.loop-element-init
loop-element-init c =
    let same : c.into_iter-element-iterator.result.rest.items ≡ c.args.elements.items = cc in
    let ks = when (any_keyed (map keyed_part c.args.elements.items)) LeftOut in
    rw same (begins as_expr c.new-all.result.values.items c.new-all.result.fault ks _ c.new-all.ensures.values
    (c.new-all.ensures.fault ∙ c.when.ensures ∙ ap (λ b. least (when b LeftOut)) (c.any_keyed.ensures ∙ ap (λ (l : List Element). any_keyed (map keyed_part l)) c.deref.ensures.value)))

pub loop-element-preserved : goal.loop-element-preserved
loop-element-preserved c =
    let all = c.loop-element.all in
    let of = go_type c.args.of.now in
    let ks = when (any_keyed (map keyed_part c.args.elements.items)) LeftOut in
    let whole = map (taken of) (map keyed_part c.args.elements.items) in
    let before = subst (λ (l : List Element). Leads as_expr all.values.items all.fault (map (taken of) (map keyed_part l)) ks whole) c.in-Some.ensures.steps.0 c.loop-element.invariant in
    let given = subst (λ (t : Type'). Gives as_expr c.assigned.result (assigned t (keyed_part c.in-Some.element).1)) c.in_ok-copy.ensures c.assigned.ensures in
    adds as_expr all.values.items _ all.fault _ (map (taken of) (map keyed_part c.next.new.self.rest.items)) ks whole (assigned of (keyed_part c.in-Some.element).1) c.assigned.result
    c.in_ok-add.ensures.values c.in_ok-add.ensures.fault given c.in_ok-add.ensures.given before
