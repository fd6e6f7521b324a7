use Rattle.go_link.proofs.Found.{allowed}
use Rattle.go_link.proofs.Placed.{accessed_placed}
use Rattle.go_link.proofs.law.law_variables_are_found.Goals as goal

pub returns : goal.returns
returns c = λ packages i j o a linked at is. accessed_placed packages i j o a (allowed packages linked).1 at is
