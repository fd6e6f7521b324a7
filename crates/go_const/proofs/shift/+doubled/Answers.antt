use Rattle.std.proofs.Common.{◌≡◌, suc, ◌-◌, ◌+ℤ◌, SomeIff, FitsSigned, ap, sym, ◌∙◌, subst, arith}
use Rattle.std.specs.Int.{w128}
use Rattle.std.proofs.lemmas.Int.{to_z-of_z}
use Rattle.go_const.proofs.Shifts.{left_step, left_out}
use Rattle.go_const.proofs.shift.+doubled.Goals as goal

pub returns-in-Some : goal.returns-in-Some
returns-in-Some t c =
    let a = c.in-Some.ensures in
    let less : c.args.times ≡ suc (c.args.times - 1) = omega (arith, c.if-times-eq0.false) in
    let twice = to_z-of_z w128 c.in-Some.twice (subst (FitsSigned w128) (sym a.1) a.0) ∙ a.1 ∙ ap (λ y. y +ℤ y) (to_z-of_z w128 c.args.z c.ranges.z) in
    subst (λ y. SomeIff c.doubled.result (FitsSigned w128 y) y) (left_step c.args.z _ c.args.times (c.args.times - 1) less twice) c.doubled.ensures

pub returns-in-None : goal.returns-in-None
returns-in-None t c f =
    let a = c.in-None.ensures in
    let less : c.args.times ≡ suc (c.args.times - 1) = omega (arith, c.if-times-eq0.false) in
    a (subst (λ y. FitsSigned w128 (y +ℤ y)) (sym (to_z-of_z w128 c.args.z c.ranges.z)) (left_out c.args.z c.args.times (c.args.times - 1) less f))
