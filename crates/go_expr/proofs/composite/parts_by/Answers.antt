use Rattle.std.proofs.Common.{◌≡◌, ℕ, ◌+◌, ◌∷◌, List, length, map, sym, ap, ◌∙◌, subst, arith, add-one}
use Rattle.go_typed.specs.Views.{part_view}
use Rattle.go_expr.specs.Rules.{element_part}
use Rattle.go_expr.specs.Views.{keyed_part, slots_of}
use Rattle.go_expr.specs.declared.composite.Element.{Element}
use Rattle.go_expr.proofs.Elements.{parts_from}
use Rattle.go_expr.proofs.Gathering.{Leads, begins, takes}
use Rattle.go_expr.proofs.composite.parts_by.Goals as goal

pub loop-element-init : goal.loop-element-init
loop-element-init c =
    let same : c.into_iter-element-iterator.result.rest.items ≡ c.args.elements.items = cc in
    rw same (record {
      counted = omega arith;
      leads = λ ks e. begins part_view c.new-all.result.values.items c.new-all.result.fault ks _ c.new-all.ensures.values (c.new-all.ensures.fault ∙ e);
    })

pub loop-element-preserved : goal.loop-element-preserved
loop-element-preserved c =
    let all = c.loop-element.all in
    let slot = slots_of c.args.slots.now in
    let n = c.loop-element.number in
    let e = c.in-Some.element in
    let rest = c.next.new.self.rest.items in
    let steps : c.loop-element.element-iterator.rest.items ≡ e ∷ rest = c.in-Some.ensures.steps.0 in
    let longer : length c.loop-element.element-iterator.rest.items ≡ length (e ∷ rest) = ap length steps in
    let whole = parts_from slot 0 (map keyed_part c.args.elements.items) in
    record {
      counted = omega (arith, longer, c.loop-element.invariant.counted);
      leads = λ ks is.
          let here = subst (λ (l : List Element). Leads part_view all.values.items all.fault (parts_from slot n (map keyed_part l)) ks whole) steps (c.loop-element.invariant.leads ks is) in
          let before = subst (λ (m : ℕ). Leads part_view all.values.items all.fault (element_part slot n (keyed_part e) ∷ parts_from slot m (map keyed_part rest)) ks whole) (sym (add-one n)) here in
          takes part_view all c.add_element.new.all (parts_from slot (n + 1) (map keyed_part rest)) ks whole (element_part slot n (keyed_part e)) c.in_ok-add_element.ensures before;
    }
