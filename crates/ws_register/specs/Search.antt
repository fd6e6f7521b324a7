-- The path that a page begins with.
use Rattle.std.specs.Prelude.{ℕ, List, [], ◌∷◌}
use Rattle.ws_version.specs.Writes.{Write}

abbrev pub first_path : List Write → List ℕ
first_path [] = []
first_path (w ∷ ws) = w.0
