use Rattle.go_link.proofs.Found.{allowed, main_found}
use Rattle.go_link.proofs.law.law_main_is_found.Goals as goal

pub returns : goal.returns
returns c = λ packages o linked last. main_found packages o (allowed packages linked).0 last
