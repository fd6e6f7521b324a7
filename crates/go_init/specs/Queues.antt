-- Packages that aren't in the order yet, by what they wait for.
use Rattle.std.specs.Prelude.{◌≡◌, ℕ, ◌<◌, ◌≤◌, ◌⊎◌, Bool, false, List, length, Option, Some, None}
use Rattle.std.specs.Global.{Vec}
use Rattle.std.specs.List.{Contains, slice_get}
use Rattle.ws_reach.specs.Reach.{Edge}
use Rattle.go_init.specs.declared.queue.Queue.{Queue}
use Rattle.go_init.specs.declared.queue.Waiter.{Waiter}

-- the package isn't in the order yet
abbrev pub IsLeft : List Bool → ℕ → Type 0
IsLeft listed k = slice_get listed k ≡ Some false

-- none of what the package imports is left
abbrev pub IsReady : List (List ℕ) → List Bool → ℕ → Type 0
IsReady rows listed k = (j : ℕ) → Edge rows k j → ¬ (IsLeft listed j)

-- of the packages in a row none is left from one place to another
abbrev pub NoneLeft : List Bool → List ℕ → ℕ → ℕ → Type 0
NoneLeft listed row from to = (i j : ℕ) → from ≤ i → i < to → slice_get row i ≡ Some j → ¬ (IsLeft listed j)

-- the first place, from one on, at which a row has a package that is left
abbrev pub IsMissing : List Bool → List ℕ → ℕ → Option ℕ → Type 0
IsMissing listed row from None = NoneLeft listed row from (length row)
IsMissing listed row from (Some place) = ((j : ℕ) × (slice_get row place ≡ Some j) × IsLeft listed j) × NoneLeft listed row from place

-- the waiter is among those at that number
abbrev pub IsAt : List (Vec Waiter) → ℕ → Waiter → Type 0
IsAt waiting j waiter = (its : Vec Waiter) × (slice_get waiting j ≡ Some its) × Contains its.items waiter

-- the package waits somewhere
abbrev pub Waits : List (Vec Waiter) → ℕ → Type 0
Waits waiting k = (j : ℕ) × (waiter : Waiter) × IsAt waiting j waiter × (waiter.importer ≡ k)

-- the import at the waiter's place is the first of its package's that is left
pub record IsWaiter (rows : List (List ℕ)) (listed : List Bool) (j : ℕ) (waiter : Waiter) : Type 0 where
  pub importer : IsLeft listed waiter.importer
  pub import : IsLeft listed j
  pub row : List ℕ
  pub at : slice_get rows waiter.importer ≡ Some row
  pub place : slice_get row waiter.place ≡ Some j
  pub before : NoneLeft listed row 0 waiter.place

-- each package that is left is ready, waits for the first of its imports that is left, or is one of the others
pub record AreQueued (rows : List (List ℕ)) (queue : Queue) (Others : ℕ → Type 0) : Type 0 where
  pub count : length queue.waiting.items ≡ length queue.listed.items
  pub size : length rows ≡ length queue.listed.items
  pub ready : (k : ℕ) → Contains queue.ready.keys k → IsLeft queue.listed.items k × IsReady rows queue.listed.items k
  pub waiting : (j : ℕ) (waiter : Waiter) → IsAt queue.waiting.items j waiter → IsWaiter rows queue.listed.items j waiter
  pub all : (k : ℕ) → IsLeft queue.listed.items k → Contains queue.ready.keys k ⊎ (Waits queue.waiting.items k ⊎ Others k)

-- a waiter of that package, at the first place of its row from one on that has a package that is left
pub record IsFrom (listed : List Bool) (row : List ℕ) (number from j : ℕ) (waiter : Waiter) : Type 0 where
  pub importer : waiter.importer ≡ number
  pub import : IsLeft listed j
  pub place : slice_get row waiter.place ≡ Some j
  pub before : NoneLeft listed row from waiter.place

-- a package has joined those that are ready or those that wait, by its row from one place on
pub record IsPut (old : Queue) (row : List ℕ) (number from : ℕ) (new : Queue) : Type 0 where
  pub listed : new.listed.items ≡ old.listed.items
  pub count : length new.waiting.items ≡ length old.waiting.items
  pub ready : (k : ℕ) → Contains new.ready.keys k → Contains old.ready.keys k ⊎ ((k ≡ number) × NoneLeft old.listed.items row from (length row))
  pub waiting : (j : ℕ) (waiter : Waiter) → IsAt new.waiting.items j waiter → IsAt old.waiting.items j waiter ⊎ IsFrom old.listed.items row number from j waiter
  pub stay_ready : (k : ℕ) → Contains old.ready.keys k → Contains new.ready.keys k
  pub stay : (k : ℕ) → Waits old.waiting.items k → Waits new.waiting.items k
  pub joins : Contains new.ready.keys number ⊎ Waits new.waiting.items number
