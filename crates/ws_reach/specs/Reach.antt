-- What is reached along edges.
use Rattle.std.specs.Prelude.{◌≡◌, ℕ, ◌<◌, ◌≤◌, List, [], ◌∷◌, length, map, Some}
use Rattle.std.specs.List.{slice_get, Contains}
use Rattle.std.specs.Global.{Vec}

-- from p over these to q, each by an edge
abbrev pub Walks : {A : Type 0} → (A → A → Type 0) → A → List A → A → Type 0
Walks E p [] q = p ≡ q
Walks E p (r ∷ rs) q = E p r × Walks E r rs q

-- q is p, or some walk leads from p to q
abbrev pub Reaches : {A : Type 0} → (A → A → Type 0) → A → A → Type 0
Reaches {A} E p q = (steps : List A) × Walks E p steps q

-- nodes are numbers: the row at p has the nodes to which p has an edge
abbrev pub Edge : List (List ℕ) → ℕ → ℕ → Type 0
Edge rows p q = (row : List ℕ) × (slice_get rows p ≡ Some row) × Contains row q

abbrev pub rows_of : List (Vec ℕ) → List (List ℕ)
rows_of = map (λ v. v.items)

-- each edge leads to a node that has a row
abbrev pub EdgesStayWithin : List (List ℕ) → Type 0
EdgesStayWithin rows = (p q : ℕ) → Edge rows p q → q < length rows
