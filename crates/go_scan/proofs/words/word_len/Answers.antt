use Rattle.std.proofs.Common.{sym, ap, ◌∙◌, rules}
use Rattle.std.proofs.lemmas.List.{take_rest}
use Rattle.go_scan.specs.Words.{is_inside}
use Rattle.go_scan.specs.Fronts.{char_size}
use Rattle.go_scan.proofs.Runs.{strides_step}
use Rattle.go_scan.proofs.WordFronts.{char_size_le}
use Rattle.go_scan.proofs.words.word_len.Goals as goal

pub overflow_add-len : goal.overflow_add-len
overflow_add-len c =
    let text = c.args.bytes.now in
    let w = strides_step (char_size is_inside) (char_size_le is_inside) text c.loop-len.len c.inside_size-size.result (c.inside_size-size.ensures ∙ ap (char_size is_inside) (take_rest text c.loop-len.len)) c.if-size-eq0.false c.loop-len.invariant.within in
    search (rules, w.0)

pub loop-len-preserved : goal.loop-len-preserved
loop-len-preserved c =
    let text = c.args.bytes.now in
    let w = strides_step (char_size is_inside) (char_size_le is_inside) text c.loop-len.len c.inside_size-size.result (c.inside_size-size.ensures ∙ ap (char_size is_inside) (take_rest text c.loop-len.len)) c.if-size-eq0.false c.loop-len.invariant.within in
    record { value = sym w.1 ∙ c.loop-len.invariant.value; within = w.0 }
