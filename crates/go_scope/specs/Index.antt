-- Lists of names in which each is compared with the others.
use Rattle.std.specs.Prelude.{◌≡◌, ℕ, Bool, true, not, ◌&&◌, List, [], ◌∷◌, map, position}
use Rattle.std.specs.Borrow.{Bor}
use Rattle.std.specs.List.{list_any}
use Rattle.std.specs.Map.{lookup}
use Rattle.std.specs.Str.{bytes_eq}

-- no name stands twice
abbrev pub are_distinct : List (List ℕ) → Bool
are_distinct [] = true
are_distinct (x ∷ xs) = not (list_any (bytes_eq x) xs) && are_distinct xs

-- entries give each name the number under which it stands first
abbrev pub AreFirsts : List (Bor (List ℕ) × ℕ) → List (List ℕ) → Type 0
AreFirsts entries names =
    (x : List ℕ) → lookup (bytes_eq x) (map (λ e. ((e.0).now, e.1)) entries) ≡ position (bytes_eq x) names
