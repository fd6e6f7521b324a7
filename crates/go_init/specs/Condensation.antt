-- The condensation of what variables and functions refer to: of functions that refer to one another in a circle one stands for all, their root. The others wait for it alone, and it waits for what any of them refers to.
-- A package's nodes are numbered twice: among the rows of edges variables come first and functions behind them, and in the condensation functions come first.
use Rattle.std.specs.Prelude.{◌≡◌, ℕ, ◌+◌, ◌-◌, ◌<◌, ◌⊎◌, ◌↔◌, Bool, true, not, nat_lt, List, map, length, slice_index, slice_index_or, Some}
use Rattle.std.specs.List.{Contains, filter, slice_get}
use Rattle.ws_reach.specs.Components.{AreAlike}
use Rattle.ws_reach.specs.Reach.{Edge, Reaches}
use Rattle.go_init.specs.Nodes.{IsAhead}

-- the numbers of one node, among the rows and in the condensation
abbrev pub IsRenumbered : ℕ → ℕ → ℕ → ℕ → Type 0
IsRenumbered count functions node number = ((node < count) × (number ≡ functions + node)) ⊎ ((number < functions) × (node ≡ count + number))

-- Each node that was found has a root, from which edges lead to it, and that all nodes share to which edges lead from it. No other has one.
pub record AreRooted (rows : List (List ℕ)) (size : ℕ) (found roots : List ℕ) : Type 0 where
  pub count : length roots ≡ size
  pub rooted : (x : ℕ) → Contains found x → (x < size) × (slice_index roots x < size)
  pub only : (x : ℕ) → x < size → slice_index roots x < size → Contains found x
  pub reached : (x : ℕ) → Contains found x → Reaches (Edge rows) (slice_index roots x) x
  pub closed : (x y : ℕ) → Contains found x → Edge rows x y → Contains found y × AreAlike roots x y

-- the root that stands for a function; any other number stands for itself
abbrev pub root_of : List ℕ → ℕ → ℕ
root_of roots number = slice_index_or roots number number

-- a function that isn't a root waits for its root
abbrev pub WaitsForRoot : List ℕ → ℕ → ℕ → Type 0
WaitsForRoot roots p q = (p < length roots) × (¬ (slice_index roots p ≡ p)) × (q ≡ slice_index roots p)

-- a row has the node with the number q, which is no function whose root is p
abbrev pub HasOther : ℕ → List ℕ → List ℕ → ℕ → ℕ → Type 0
HasOther count roots row p q = (node : ℕ) × Contains row node × IsRenumbered count (length roots) node q × (q < length roots → ¬ (slice_index roots q ≡ p))

-- a variable, or a function that it is the root of, refers to what has the number q
abbrev pub WaitsForReferred : List (List ℕ) → ℕ → List ℕ → ℕ → ℕ → Type 0
WaitsForReferred rows count roots p q =
    (node number : ℕ) × (row : List ℕ) × (slice_get rows node ≡ Some row) × IsRenumbered count (length roots) node number × (p ≡ root_of roots number) × HasOther count roots row p q

-- the variables among numbers of the condensation
abbrev pub variables_among : ℕ → List ℕ → List ℕ
variables_among functions numbers = map (λ x. x - functions) (filter (λ x. not (nat_lt x functions)) numbers)

-- of the first nodes, as many as the count, one depends on another just where one edge or more lead to it
abbrev pub AreDue : List (List ℕ) → ℕ → (ℕ → ℕ → Bool) → Type 0
AreDue rows count depends = (v w : ℕ) → v < count → w < count → (depends v w ≡ true) ↔ IsAhead rows v w
