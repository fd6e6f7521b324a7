use Rattle.std.proofs.Common.{◌≡◌, take, Some, sym, ap, ◌∙◌}
use Rattle.go_scan.specs.declared.shape.Shape.TheVariants.{Word}
use Rattle.go_scan.specs.Words.{is_letter}
use Rattle.go_scan.specs.Fronts.{char_size, word_kind, keyword_in}
use Rattle.go_scan.proofs.WordFronts.{word_some}
use Rattle.go_scan.proofs.words.word_at.Goals as goal

pub returns : goal.returns
returns c =
    let text = c.args.bytes.now in
    let never : char_size is_letter text ≡ 0 → ⊥ = λ e. c.if-letter_size-eq0.false (c.letter_size.ensures ∙ e) in
    ap (λ k. Some (Word k, c.word_len-len.result)) c.word_kind.ensures
    ∙ ap (λ n. Some (Word (word_kind (keyword_in (take n text))), n)) c.word_len-len.ensures.value
    ∙ sym (word_some text never)
