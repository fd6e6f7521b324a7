use Rattle.std.proofs.Common.{◌+◌, ◌-◌, ◌*◌, ◌<◌, length, drop, rules, arith, sym, ap, ◌∙◌, subst}
use Rattle.go_scan.specs.Fronts.{digits_at}
use Rattle.go_scan.proofs.Digits.{digits_short, digit_read, digit_missed, power_small, digit_bound, product_bound}
use Rattle.go_scan.proofs.escapes.digits_at.Goals as goal

pub returns-then-bytes-count : goal.returns-then-bytes-count
returns-then-bytes-count c = sym (digits_short c.args.base c.args.count 0 c.args.bytes.now c.if-bytes-count.true)

pub overflow_mul-number : goal.overflow_mul-number
overflow_mul-number c =
    let most = product_bound c.loop-i.number c.args.base c.loop-i.i c.loop-i.invariant.bound c.requires.high (omega (arith, c.loop-i-test.true, c.requires.few)) in
    search (rules, most)

pub overflow_add-number : goal.overflow_add-number
overflow_add-number c =
    let most = product_bound c.loop-i.number c.args.base c.loop-i.i c.loop-i.invariant.bound c.requires.high (omega (arith, c.loop-i-test.true, c.requires.few)) in
    search (rules, most)

pub returns-in-None : goal.returns-in-None
returns-in-None c =
    let within : c.loop-i.i < length c.args.bytes.now = omega (arith, c.loop-i-test.true, c.if-bytes-count.false) in
    digit_missed c.args.base c.args.count c.loop-i.number c.loop-i.i c.args.bytes.now c.loop-i-test.true within c.in-None.ensures.value
    ∙ c.loop-i.invariant.value

pub loop-i-preserved : goal.loop-i-preserved
loop-i-preserved c =
    let within : c.loop-i.i < length c.args.bytes.now = omega (arith, c.loop-i-test.true, c.if-bytes-count.false) in
    let digit = c.in-Some.ensures.value in
    record {
      value = ap (λ d. digits_at c.args.base (c.args.count - (c.loop-i.i + 1)) (c.loop-i.number * c.args.base + d) (drop (c.loop-i.i + 1) c.args.bytes.now)) digit.1
          ∙ digit_read c.args.base c.args.count c.loop-i.number c.loop-i.i c.args.bytes.now c.loop-i-test.true within digit.0
          ∙ c.loop-i.invariant.value;
      bound = digit_bound c.loop-i.number c.args.base c.in-Some.digit c.loop-i.i c.loop-i.invariant.bound c.requires.high (subst (λ d. d < c.args.base) (sym digit.1) digit.0);
    }

pub overflow_cast-result : goal.overflow_cast-result
overflow_cast-result c =
    let few = power_small c.loop-i.i (omega (arith, c.loop-i.auto.i-end, c.requires.few)) in
    let bound = c.loop-i.invariant.bound in
    search (rules, few, bound)
