use Rattle.std.proofs.Common.{◌≡◌, true, false, sym, ap, ◌∙◌}
use Rattle.std.specs.List.{find}
use Rattle.std.specs.Str.{bytes_eq}
use Rattle.std.proofs.lemmas.Slice.Eq.{bytes_eq-Decides}
use Rattle.go_scan.specs.Keywords.{spelling}
use Rattle.go_scan.proofs.Keys.{find_step, keyword_among}
use Rattle.go_scan.proofs.keyword.keyword_of.Goals as goal

pub returns-then-eq-clause-some : goal.returns-then-eq-clause-some
returns-then-eq-clause-some c =
    let word = c.args.word.now in
    let same : bytes_eq c.as_bytes.result.now word ≡ true = sym c.eq.ensures ∙ c.if-eq.true in
    sym ((bytes_eq-Decides c.as_bytes.result.now word).0 same) ∙ c.as_bytes.ensures.value ∙ c.spelling.ensures

pub loop-keyword-init : goal.loop-keyword-init
loop-keyword-init c =
    let word = c.args.word.now in
    ap (λ ks. find (λ k. bytes_eq (spelling k) word) ks) c.beginning_with-keyword-items.ensures ∙ keyword_among word

pub loop-keyword-preserved : goal.loop-keyword-preserved
loop-keyword-preserved c =
    let word = c.args.word.now in
    let other : bytes_eq c.spelling.result.now word ≡ false = ap (λ s. bytes_eq s word) (sym c.as_bytes.ensures.value) ∙ sym c.eq.ensures ∙ c.if-eq.false in
    find_step (λ k. bytes_eq (spelling k) word) _ c.loop-keyword.keyword-index _ _ c.loop-keyword-test.true (ap (λ s. bytes_eq s word) (sym c.spelling.ensures) ∙ other) c.loop-keyword.invariant
