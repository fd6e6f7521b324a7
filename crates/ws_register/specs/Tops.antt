-- The greatest counter among writes.
use Rattle.std.specs.Prelude.{ℕ, max, List, [], ◌∷◌}
use Rattle.ws_version.specs.Writes.{Write}

-- the greatest counter among writes, and 0 for none
abbrev pub top : List Write → ℕ
top [] = 0
top (w ∷ ws) = max w.1.counter (top ws)
