use Rattle.std.proofs.Common.{ap, sym, ◌∙◌, FitsSigned, rules, ◌*ℤ◌}
use Rattle.std.specs.Int.{w128}
use Rattle.std.proofs.lemmas.Int.{to_z-of_z, wrapping_mul_is}
use Rattle.go_code.specs.Operators.{wrapped}
use Rattle.go_const.proofs.Shifts.{right_end}
use Rattle.go_cells.specs.Numbers.{shifted_number}
use Rattle.go_cells.proofs.Wraps.{left_out, wrapped_again}
use Rattle.go_cells.proofs.number.shift.Goals as goal

pub returns-in-Right-clause-value : goal.returns-in-Right-clause-value
returns-in-Right-clause-value c =
    let f : FitsSigned w128 c.wrap.result = search rules in
    to_z-of_z w128 c.wrap.result f ∙ c.wrap.ensures.value
    ∙ ap (wrapped c.args.kind) (right_end c.args.number _ c.args.count c.min.result (to_z-of_z w128 c.args.number c.ranges.number) c.ranges.number c.min.ensures)
    ∙ ap (λ o. wrapped c.args.kind (shifted_number o c.args.number c.args.count)) (sym c.in-Right.is)

pub returns-in-Left-clause-value : goal.returns-in-Left-clause-value
returns-in-Left-clause-value c =
    left_out c.args.kind c.args.number c.args.count c.if-count-ge64.true
    ∙ ap (λ o. wrapped c.args.kind (shifted_number o c.args.number c.args.count)) (sym c.in-Left.is)

pub returns-in-Left-2-clause-value : goal.returns-in-Left-2-clause-value
returns-in-Left-2-clause-value c =
    let f : FitsSigned w128 c.wrap-in-Left-2.result = search rules in
    let g : FitsSigned w128 c.power_of_two.result = search rules in
    to_z-of_z w128 c.wrap-in-Left-2.result f ∙ c.wrap-in-Left-2.ensures.value
    ∙ ap (wrapped c.args.kind) (wrapping_mul_is w128 c.args.number c.power_of_two.result c.ranges.number g)
    ∙ wrapped_again c.args.kind (c.args.number *ℤ c.power_of_two.result)
    ∙ ap (λ p. wrapped c.args.kind (c.args.number *ℤ p)) c.power_of_two.ensures
    ∙ ap (λ o. wrapped c.args.kind (shifted_number o c.args.number c.args.count)) (sym c.in-Left.is)
