-- Bytes are below 256.
use Rattle.std.proofs.Common.{◌≡◌, ℕ, suc, ◌<◌, true, List, [], ◌∷◌, get_or, refl}
use Rattle.std.specs.List.{list_all}
use Rattle.std.proofs.lemmas.Bool.{and_from, lt-ltb}
use Rattle.ws_version.specs.Writes.{is_byte}

pub all_bytes : (bs : List ℕ) → ((i : ℕ) → get_or bs i 0 < 256) → list_all is_byte bs ≡ true
all_bytes [] h = refl
all_bytes (b ∷ bs) h = and_from (is_byte b) (list_all is_byte bs) (lt-ltb b 256 (h 0)) (all_bytes bs (λ i. h (suc i)))
