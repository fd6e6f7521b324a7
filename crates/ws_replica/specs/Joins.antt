-- What several values join to.
use Rattle.std.specs.Prelude.{◌≡◌, List, [], ◌∷◌, map}

-- a value and then others, joined from the left
abbrev pub joined_from : {J : Type 0} → (J → J → J) → J → List J → J
joined_from f first [] = first
joined_from f first (next ∷ rest) = joined_from f (f first next) rest

-- what a list with a member joins to, from the left
abbrev pub IsJoinOf : {J : Type 0} → (J → J → J) → List J → J → Type 0
IsJoinOf {J} f all joined = (first : J) (rest : List J) → all ≡ first ∷ rest → joined ≡ joined_from f first rest

-- each becomes what all hold together
abbrev pub all_joined : {J : Type 0} → (J → J → J) → List J → List J
all_joined f [] = []
all_joined f (first ∷ rest) = map (λ _. joined_from f first rest) (first ∷ rest)
