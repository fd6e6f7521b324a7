use Rattle.std.proofs.Common.{ap, ◌∙◌, inl, inr, arith}
use Rattle.go_init.proofs.Behind.{NextBehind}
use Rattle.go_init.proofs.VariablesAmong.{found_all, found_next}
use Rattle.go_init.proofs.order.variables_among.Goals as goal
use Rattle.go_init.proofs.order.variables_among.Goals.{then-number-functions+in_ok-push, else-number-functions}

pub loop-i-preserved : goal.loop-i-preserved
loop-i-preserved c =
    let number = c.node_at-number.result in
    let step : NextBehind c.loop-i.variables.items c.if-number-functions.variables.items c.args.functions number = elim c.if-number-functions.branch [
      | then-number-functions+in_ok-push w ↦ inl (omega arith, ap (λ v. v.items) w.variables-is ∙ w.in_ok-push.ensures.items)
      | else-number-functions w ↦ inr (omega arith, ap (λ v. v.items) w.variables-is)
    ] in
    found_next c.args.functions c.args.numbers.now c.loop-i.variables.items c.if-number-functions.variables.items c.loop-i.i number c.node_at-number.ensures step c.loop-i.invariant

pub returns : goal.returns
returns c = found_all c.args.functions c.args.numbers.now c.loop-i.variables.items c.loop-i.i (omega (arith, c.loop-i-test.false)) c.loop-i.invariant
