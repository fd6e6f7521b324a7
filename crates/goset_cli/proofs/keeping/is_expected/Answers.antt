use Rattle.std.proofs.Common.{◌∙◌, sym}
use Rattle.std.proofs.lemmas.Bool.{false≢true}
use Rattle.std.proofs.lemmas.Result.{IfOk-weaker}
use Rattle.std.proofs.lemmas.Slice.Eq.{bytes_eq-Decides}
use Rattle.goset_cli.proofs.keeping.is_expected.Goals as goal

pub returns-in-None-clause-is : goal.returns-in-None-clause-is
returns-in-None-clause-is c = let none = c.in-None.is in rw none (λ _. tt)

pub returns-in-None-clause-another : goal.returns-in-None-clause-another
returns-in-None-clause-another c = λ same. absurd (false≢true (sym same))

pub returns-in-Some-clause-is : goal.returns-in-Some-clause-is
returns-in-Some-clause-is c =
    let some = c.in-Some.is in
    rw some (IfOk-weaker c.has_digest.result _ _ (λ same e t. (bytes_eq-Decides _ _).0 (sym e ∙ t)) c.has_digest.ensures)

pub returns-in-Some-clause-another : goal.returns-in-Some-clause-another
returns-in-Some-clause-another c =
    let some = c.in-Some.is in
    rw some (IfOk-weaker c.has_digest.result _ _ (λ same e f is. false≢true (sym f ∙ (e ∙ (bytes_eq-Decides _ _).1 is))) c.has_digest.ensures)
