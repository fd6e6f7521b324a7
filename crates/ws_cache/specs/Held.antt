-- What a cache gives, for the set of actions whose entries were put into it.
use Rattle.std.specs.Prelude.{◌≡◌, ◌≢◌, ℕ, false, List, MatchOption, Option}
use Rattle.std.specs.List.{Contains}
use Rattle.std.specs.declared.cmp.Ordering.{Ordering}
use Rattle.std.specs.Ordering.{is_gt}
use Rattle.std.specs.FinMap.{FinMap, get}
use Rattle.ws_action.specs.Actions.{Action, action_id, action_cmp, text_cmp}

-- of the actions of E that have the id, a is the least
pub record IsLeast (E : List Action) (id : List ℕ) (a : Action) : Type 0 where
  pub among : Contains E a
  pub known : action_id a ≡ id
  pub least : (b : Action) → Contains E b → action_id b ≡ id → is_gt (action_cmp a b) ≡ false

-- what is held of E for an id: the least action that has it, and nothing where none has it
abbrev pub IsHeld : List Action → List ℕ → Option Action → Type 0
IsHeld E id held = MatchOption held ((a : Action) → Contains E a → action_id a ≢ id) (IsLeast E id)

-- ids by bytes
abbrev pub id_cmp : List ℕ → List ℕ → Ordering
id_cmp = text_cmp

-- the cache gives what is held of E, for each id
unfoldable pub CacheStandsFor : FinMap id_cmp Action → List Action → Type 0
CacheStandsFor cache E = (id : List ℕ) → IsHeld E id (get cache id)
