use Rattle.std.proofs.Common.{◌≡◌, true, false, sym, ap, ◌∙◌}
use Rattle.std.specs.List.{find}
use Rattle.std.specs.Str.{bytes_eq}
use Rattle.std.proofs.lemmas.Slice.Eq.{bytes_eq-Decides}
use Rattle.go_scan.specs.Punctuations.{punctuation_spelling}
use Rattle.go_scan.proofs.Keys.{find_step, mark_among}
use Rattle.go_scan.proofs.punctuation.punctuation_of.Goals as goal

pub returns-then-eq-clause-some : goal.returns-then-eq-clause-some
returns-then-eq-clause-some c =
    let word = c.args.word.now in
    let same : bytes_eq c.as_bytes.result.now word ≡ true = sym c.eq.ensures ∙ c.if-eq.true in
    sym ((bytes_eq-Decides c.as_bytes.result.now word).0 same) ∙ c.as_bytes.ensures.value ∙ c.spelling.ensures

pub loop-punctuation-init : goal.loop-punctuation-init
loop-punctuation-init c =
    let word = c.args.word.now in
    ap (λ ps. find (λ p. bytes_eq (punctuation_spelling p) word) ps) c.beginning_with-punctuation-items.ensures ∙ mark_among word

pub loop-punctuation-preserved : goal.loop-punctuation-preserved
loop-punctuation-preserved c =
    let word = c.args.word.now in
    let other : bytes_eq c.spelling.result.now word ≡ false = ap (λ s. bytes_eq s word) (sym c.as_bytes.ensures.value) ∙ sym c.eq.ensures ∙ c.if-eq.false in
    find_step (λ p. bytes_eq (punctuation_spelling p) word) _ c.loop-punctuation.punctuation-index _ _ c.loop-punctuation-test.true (ap (λ s. bytes_eq s word) (sym c.spelling.ensures) ∙ other) c.loop-punctuation.invariant
