-- What several maps hold together.
use Rattle.std.specs.Prelude.{List, [], ◌∷◌}
use Rattle.std.specs.declared.cmp.Ordering.{Ordering}
use Rattle.std.specs.FinMap.{FinMap, empty}
use Rattle.ws_map.specs.Kept.{joined}

abbrev pub joined_all : {K X : Type 0} {C : K → K → Ordering} → (X → X → X) → List (FinMap C X) → FinMap C X
joined_all f [] = empty
joined_all f (m ∷ ms) = joined f m (joined_all f ms)
