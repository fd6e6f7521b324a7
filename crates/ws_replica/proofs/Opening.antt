-- What a replica that took nothing stands for.
use Rattle.std.proofs.Common.{◌≡◌, List, [], ℕ, sym, ap, subst, ◌∙◌}
use Rattle.std.specs.FinMap.{get, empty, get-empty}
use Rattle.ws_version.specs.Writes.{Held, held_cmp, path_cmp}
use Rattle.ws_map.specs.Kept.{StandsFor, StandsAt}
use Rattle.ws_register.specs.Edits.{Contents}
use Rattle.ws_action.proofs.Members.{none_in_empty}

-- registers that took nothing
pub nothing_stands : (m : Contents) → m ≡ empty → StandsFor held_cmp m []
unfolding StandsFor
nothing_stands m e q = subst (StandsAt held_cmp [] q) (sym (ap (λ (n : Contents). get n q) e ∙ get-empty path_cmp q)) (λ y c. absurd (none_in_empty {A = List ℕ × Held} (q, y) c))
