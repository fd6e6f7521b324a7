use Rattle.std.proofs.Common.{ℕ, List, length, take, Some, None, sym, ap, ◌∙◌}
use Rattle.go_scan.specs.declared.shape.Shape.TheVariants.{Word}
use Rattle.go_scan.specs.declared.token.TokenKind.TheVariants as kinds
use Rattle.go_scan.specs.Fronts.{punctuation_in}
use Rattle.go_scan.proofs.Keys.{no_punctuation_in, punctuation_some}
use Rattle.go_scan.proofs.front.mark_of.Goals as goal

pub returns-in-Some : goal.returns-in-Some
returns-in-Some c =
    let e = c.head-word.ensures in
    let p = c.in-Some.punctuation in
    ap (λ (ys : List ℕ). Some (Word (kinds.Punctuation p), length ys)) e
    ∙ sym (ap (λ o. elim o [ None ↦ None | Some q ↦ Some (Word (kinds.Punctuation q), length (take c.args.most c.args.bytes.now)) ]) (punctuation_some (take c.args.most c.args.bytes.now) p (sym e ∙ c.in-Some.ensures.some)))

pub returns-in-None : goal.returns-in-None
returns-in-None c =
    let e = c.head-word.ensures in
    sym (ap (λ o. elim o [ None ↦ None | Some q ↦ Some (Word (kinds.Punctuation q), length (take c.args.most c.args.bytes.now)) ]) (sym (ap punctuation_in e) ∙ no_punctuation_in c.head-word.result.now (c.punctuation_of.ensures.none c.in-None.is)))
