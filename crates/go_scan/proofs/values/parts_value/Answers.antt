use Rattle.std.proofs.Common.{◌+◌, ◌-◌, ◌<◌, length, arith, rules}
use Rattle.go_scan.proofs.LiteralFronts.{values_step}
use Rattle.go_scan.proofs.values.parts_value.Goals as goal

pub overflow_add-at : goal.overflow_add-at
overflow_add-at c =
    let w = values_step c.args.bytes.now c.loop-at.at c.in-Some.size c.in-Some.meaning c.loop-at.value.items c.push_meaning.new.value.items c.in-Some.ensures c.loop-at.invariant.within c.in_ok-push_meaning.ensures c.loop-at.invariant.value in
    search (rules, w.1)

pub loop-at-smaller : goal.loop-at-smaller
loop-at-smaller c =
    let w = values_step c.args.bytes.now c.loop-at.at c.in-Some.size c.in-Some.meaning c.loop-at.value.items c.push_meaning.new.value.items c.in-Some.ensures c.loop-at.invariant.within c.in_ok-push_meaning.ensures c.loop-at.invariant.value in
    let smaller : length c.args.bytes.now - (c.loop-at.at + c.in-Some.size) < length c.args.bytes.now - c.loop-at.at = omega (arith, w.1, w.2) in
    smaller

pub loop-at-preserved : goal.loop-at-preserved
loop-at-preserved c =
    let w = values_step c.args.bytes.now c.loop-at.at c.in-Some.size c.in-Some.meaning c.loop-at.value.items c.push_meaning.new.value.items c.in-Some.ensures c.loop-at.invariant.within c.in_ok-push_meaning.ensures c.loop-at.invariant.value in
    record { value = w.0; within = w.1 }
