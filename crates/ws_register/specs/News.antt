-- What is taken of another's at some paths.
use Rattle.std.specs.Prelude.{ℕ, List, ◌++◌, ◌⊎◌}
use Rattle.std.specs.List.{Contains}
use Rattle.std.specs.FinMap.{get}
use Rattle.ws_map.specs.Kept.{StandsFor, entry_of}
use Rattle.ws_version.specs.Writes.{Write, held_cmp}
use Rattle.ws_register.specs.Edits.{Contents}

-- what the second set has and the first lacks is at one of these paths
abbrev pub HasNewsAt : List (List ℕ) → List Write → List Write → Type 0
HasNewsAt paths V W = (w : Write) → Contains W w → Contains V w ⊎ Contains paths w.0

-- it took what others hold at a path
abbrev pub TakesAt : List ℕ → Contents → Contents → Contents → Type 0
TakesAt path others old new = (W : List Write) → StandsFor held_cmp old W → StandsFor held_cmp new (W ++ entry_of path (get others path))

-- it holds what two do, where what is news of the second's is at these paths
abbrev pub HoldBothAt : List (List ℕ) → Contents → Contents → Contents → Type 0
HoldBothAt paths mine theirs both = (V W : List Write) → HasNewsAt paths V W → StandsFor held_cmp mine V → StandsFor held_cmp theirs W → StandsFor held_cmp both (V ++ W)
