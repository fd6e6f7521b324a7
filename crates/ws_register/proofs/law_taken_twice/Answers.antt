use Rattle.std.proofs.Common.{[], ◌∷◌, ◌++◌}
use Rattle.ws_register.proofs.Laws.{one_contents, same_twice}
use Rattle.ws_register.proofs.law_taken_twice.Goals as goal

pub returns : goal.returns
returns c m n W w = one_contents m n (W ++ w ∷ []) (W ++ w ∷ w ∷ []) (same_twice W w)
