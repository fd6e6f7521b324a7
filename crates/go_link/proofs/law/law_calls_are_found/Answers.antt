use Rattle.go_link.proofs.Found.{allowed, called_found}
use Rattle.go_link.proofs.law.law_calls_are_found.Goals as goal

pub returns : goal.returns
returns c = λ packages i j o s linked at is. called_found packages i j o s (allowed packages linked).1 at is
