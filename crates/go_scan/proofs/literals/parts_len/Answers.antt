use Rattle.std.proofs.Common.{sym, ap, ◌∙◌, rules}
use Rattle.std.proofs.lemmas.List.{take_rest}
use Rattle.go_scan.specs.Fronts.{part_size}
use Rattle.go_scan.proofs.Runs.{strides_step}
use Rattle.go_scan.proofs.LiteralFronts.{part_size_le}
use Rattle.go_scan.proofs.literals.parts_len.Goals as goal

pub overflow_add-len : goal.overflow_add-len
overflow_add-len c =
    let text = c.args.bytes.now in
    let w = strides_step part_size part_size_le text c.loop-len.len c.part_size-size.result (c.part_size-size.ensures ∙ ap part_size (take_rest text c.loop-len.len)) c.if-size-eq0.false c.loop-len.invariant.within in
    search (rules, w.0)

pub loop-len-preserved : goal.loop-len-preserved
loop-len-preserved c =
    let text = c.args.bytes.now in
    let w = strides_step part_size part_size_le text c.loop-len.len c.part_size-size.result (c.part_size-size.ensures ∙ ap part_size (take_rest text c.loop-len.len)) c.if-size-eq0.false c.loop-len.invariant.within in
    record { value = sym w.1 ∙ c.loop-len.invariant.value; within = w.0 }
