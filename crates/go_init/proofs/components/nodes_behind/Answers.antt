use Rattle.std.proofs.Common.{ap, ◌∙◌, inl, inr, arith}
use Rattle.go_init.proofs.Behind.{NextBehind, behind_end, behind_next}
use Rattle.go_init.proofs.components.nodes_behind.Goals as goal
use Rattle.go_init.proofs.components.nodes_behind.Goals.{then-node-count+in_ok-push, else-node-count}

pub loop-i-preserved : goal.loop-i-preserved
loop-i-preserved c =
    let node = c.node_at-node.result in
    let step : NextBehind c.loop-i.behind.items c.if-node-count.behind.items c.args.count node = elim c.if-node-count.branch [
      | then-node-count+in_ok-push w ↦ inl (omega arith, ap (λ v. v.items) w.behind-is ∙ w.in_ok-push.ensures.items)
      | else-node-count w ↦ inr (omega arith, ap (λ v. v.items) w.behind-is)
    ] in
    behind_next c.args.row.now c.loop-i.behind.items c.if-node-count.behind.items c.args.count c.loop-i.i node c.node_at-node.ensures step c.loop-i.invariant

pub returns : goal.returns
returns c = behind_end c.args.row.now c.loop-i.behind.items c.args.count c.loop-i.i (omega (arith, c.loop-i-test.false)) c.loop-i.invariant
