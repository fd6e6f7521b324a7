-- Writes in the order of their paths.
use Rattle.std.specs.Prelude.{◌≡◌, ℕ, ◌<◌, ◌≤◌, List, ◌∷◌, map, length, T}
use Rattle.std.specs.Arc.{arc_value}
use Rattle.std.specs.declared.sync.Arc.{Arc}
use Rattle.std.specs.declared.cmp.Ordering.TheVariants.{Less}
use Rattle.std.specs.List.{AllByRecursion}
use Rattle.std.specs.FinMap.{FinMap, entries, from_entries, is_sorted}
use Rattle.ws_map.specs.Kept.{joined}
use Rattle.ws_version.specs.Writes.{Held, Write, path_cmp, greater_held}
use Rattle.ws_register.specs.Tops.{top}

-- what each of them points to
abbrev pub values : {X Z : Type 0} → List (Arc X Z) → List X
values = map arc_value

-- the paths rise strictly
abbrev pub Ascends : List Write → Type 0
Ascends W = T (is_sorted path_cmp W)

-- each path is below that one
abbrev pub AllPathsBelow : List Write → List ℕ → Type 0
AllPathsBelow W path = AllByRecursion (λ w. path_cmp w.0 path ≡ Less) W

-- each path is above that one
abbrev pub AllAbove : List Write → List ℕ → Type 0
AllAbove W path = AllByRecursion (λ w. path_cmp path w.0 ≡ Less) W

-- 1 to 64 writes, and the greatest counter among them
pub record IsPage (W : List Write) (greatest : ℕ) : Type 0 where
  pub some : 0 < length W
  pub few : length W ≤ 64
  pub counted : greatest ≡ top W

-- the map of the writes, which is one for each path
abbrev pub contents : List Write → FinMap path_cmp Held
contents = from_entries

-- the greatest write of each path that either has, in the order of paths
abbrev pub joined_writes : List Write → List Write → List Write
joined_writes V W = entries (joined greater_held (contents V) (contents W))

-- both begin with a write to one path
abbrev pub BeginAlike : List Write → List Write → Type 0
BeginAlike V W = (path : List ℕ) × (a b : Held) × (tail others : List Write) × (V ≡ (path, a) ∷ tail) × (W ≡ (path, b) ∷ others)
