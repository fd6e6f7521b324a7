use Rattle.std.proofs.Common.{◌≡◌, ◌+ℤ◌, ◌-ℤ◌, ◌*ℤ◌, ap, sym, ◌∙◌, bit_and, to_z, of_z, FitsSigned}
use Rattle.std.specs.Prelude.{int_div}
use Rattle.std.specs.Int.{w128, int_wrapping_div}
use Rattle.std.proofs.lemmas.Int.{to_z-of_z, wrapping_add_is, wrapping_sub_is, wrapping_mul_is}
use Rattle.go_const.specs.Constants.{arithmetic}
use Rattle.go_code.specs.Operators.{wrapped}
use Rattle.go_cells.proofs.Wraps.{wrapped_again, quotient_fits, others}
use Rattle.go_cells.proofs.number.combine.Goals as goal

pub returns-in-Add : goal.returns-in-Add
returns-in-Add c = λ kind.
    ap (wrapped kind) (wrapping_add_is w128 c.args.x c.args.y c.ranges.x c.ranges.y) ∙ wrapped_again kind (c.args.x +ℤ c.args.y)
    ∙ ap (λ o. wrapped kind (arithmetic o c.args.x c.args.y)) (sym c.in-Add.is)

pub returns-in-Subtract : goal.returns-in-Subtract
returns-in-Subtract c = λ kind.
    ap (wrapped kind) (wrapping_sub_is w128 c.args.x c.args.y c.ranges.x c.ranges.y) ∙ wrapped_again kind (c.args.x -ℤ c.args.y)
    ∙ ap (λ o. wrapped kind (arithmetic o c.args.x c.args.y)) (sym c.in-Subtract.is)

pub returns-in-Multiply : goal.returns-in-Multiply
returns-in-Multiply c = λ kind.
    ap (wrapped kind) (wrapping_mul_is w128 c.args.x c.args.y c.ranges.x c.ranges.y) ∙ wrapped_again kind (c.args.x *ℤ c.args.y)
    ∙ ap (λ o. wrapped kind (arithmetic o c.args.x c.args.y)) (sym c.in-Multiply.is)

pub returns-in-Divide : goal.returns-in-Divide
returns-in-Divide c =
    let fits : FitsSigned w128 (int_div c.args.x c.args.y) = quotient_fits c.args.x c.args.y c.requires.known in
    let quotient : c.wrapping_div.result ≡ int_div c.args.x c.args.y =
    c.wrapping_div.ensures ∙ ap (λ x. int_wrapping_div w128 x (to_z w128 (of_z w128 c.args.y))) (to_z-of_z w128 c.args.x c.ranges.x)
    ∙ ap (int_wrapping_div w128 c.args.x) (to_z-of_z w128 c.args.y c.ranges.y) ∙ to_z-of_z w128 (int_div c.args.x c.args.y) fits in
    λ kind. ap (λ z. wrapped kind (to_z w128 (of_z w128 z))) quotient ∙ ap (wrapped kind) (to_z-of_z w128 (int_div c.args.x c.args.y) fits)
    ∙ ap (λ o. wrapped kind (arithmetic o c.args.x c.args.y)) (sym c.in-Divide.is)

pub returns-in-AndNot : goal.returns-in-AndNot
returns-in-AndNot c = λ kind.
    ap (λ n. wrapped kind (to_z w128 (bit_and (of_z w128 c.args.x) n))) (others c.args.y c.ranges.y)
    ∙ ap (λ o. wrapped kind (arithmetic o c.args.x c.args.y)) (sym c.in-AndNot.is)
