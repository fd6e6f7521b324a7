use Rattle.std.proofs.Common.{◌≡◌, None, arith, ◌∙◌}
use Rattle.go_expr.specs.Rules.{digits_number}
use Rattle.go_expr.proofs.Digits.{too_large, large_product, large_sum}
use Rattle.go_expr.proofs.literal.number_of.Goals as goal

pub returns-in_err-checked_mul : goal.returns-in_err-checked_mul
returns-in_err-checked_mul c =
    let none : c.from_residual.result ≡ None = cc in
    rw none (too_large c.args.base c.loop-byte.number c.args.digits.now c.loop-byte.byte-index (digits_number c.args.base c.args.digits.now) (omega arith) c.loop-byte-test.true
    c.in-Some.ensures.value.0 (large_product c.loop-byte.number c.from.result c.args.base _ c.from.ensures c.in_err-checked_mul.ensures) c.loop-byte.invariant)

pub returns-in_err-number : goal.returns-in_err-number
returns-in_err-number c =
    let none : c.from_residual-in_err-number.result ≡ None = cc in
    rw none (too_large c.args.base c.loop-byte.number c.args.digits.now c.loop-byte.byte-index (digits_number c.args.base c.args.digits.now) (omega arith) c.loop-byte-test.true
    c.in-Some.ensures.value.0
    (large_sum c.loop-byte.number c.from.result c.args.base c.in_ok-checked_mul.field-0 c.from-in-Some.result _ c.from.ensures c.in_ok-checked_mul.ensures.1
    (c.from-in-Some.ensures ∙ c.in-Some.ensures.value.1) c.in_err-number.ensures) c.loop-byte.invariant)
