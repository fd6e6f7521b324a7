-- In which order the variables of a package get their values: https://go.dev/ref/spec#Package_initialization
use Rattle.std.specs.Prelude.{◌≡◌, ℕ, zero, suc, ◌+◌, Bool, false, ◌||◌, bytes_eq, List, ◌∷◌, ◌++◌, length, Some, None}
use Rattle.std.specs.List.{list_any, flat_map, filter, filter_map, slice_get}
use Rattle.go_text.specs.declared.place.Place.{Place}
use Rattle.go_typed.specs.Trees.{Initialization, Package}
use Rattle.go_init.specs.Turns.{in_turn}

-- a variable of that name gets its value so
abbrev pub sets : Initialization → List ℕ → Bool
sets i x = list_any (λ o. elim o [ None ↦ false | Some y ↦ bytes_eq x y ]) i.variables

-- what a name refers to: of a variable its value, of a function its text
abbrev pub referred : Package → List ℕ → List (List ℕ)
referred p x =
    flat_map (λ i. i.references) (filter (λ i. sets i x) p.initializations) ++ flat_map (λ u. u.1) (filter (λ u. bytes_eq x u.0) p.uses)

-- one of these names, or of those that they refer to, and so on for so many steps, is that of a variable that gets its value so
abbrev pub lead_to : Package → Initialization → ℕ → List (List ℕ) → Bool
lead_to p i zero names = false
lead_to p i (suc n) names = list_any (λ x. sets i x || lead_to p i n (referred p x)) names

-- no way without a circle has more steps
abbrev pub depends : Package → Initialization → Initialization → Bool
depends p i j = lead_to p j (suc (length p.initializations + length p.uses)) i.references

-- whether the one at k depends on the one at q
abbrev pub is_due : Package → ℕ → ℕ → Bool
is_due p k q = elim (slice_get p.initializations k) [
  | None ↦ false
  | Some i ↦ elim (slice_get p.initializations q) [ None ↦ false | Some j ↦ depends p i j ]
]

-- each time the first that depends on none of those that are left; and what is left over, which depends on itself or on such
abbrev pub variable_order : Package → List Initialization × List Initialization
variable_order p = in_turn (depends p) p.initializations

-- the initializations of some numbers
abbrev pub in_order : Package → List ℕ → List Initialization
in_order p order = filter_map (slice_get p.initializations) order

-- something is left over, the first of it there
abbrev pub IsCycleAt : Package → List ℕ → Place → Type 0
IsCycleAt p file place = (i : Initialization) × (rest : List Initialization) × ((variable_order p).1 ≡ i ∷ rest) × (i.file ≡ file) × (i.place ≡ place)
