-- How many actions a cache lacks.
use Rattle.std.specs.Prelude.{ℕ, suc, Bool, if◌then◌else◌, List, [], ◌∷◌, map}
use Rattle.std.specs.List.{list_any}
use Rattle.std.specs.Str.{bytes_eq}
use Rattle.std.specs.Ordering.{is_eq}
use Rattle.ws_action.specs.Actions.{Action, action_id, action_cmp}

-- how many different ones of the second list are none of the first, where `same` tells equal ones
abbrev pub count_new : {X : Type 0} → (X → X → Bool) → List X → List X → ℕ
count_new same seen [] = 0
count_new same seen (x ∷ xs) = if list_any (same x) seen then count_new same seen xs else suc (count_new same (x ∷ seen) xs)

-- how many different ids the actions have that no action of E has
abbrev pub compiled_count : List Action → List Action → ℕ
compiled_count E actions = count_new bytes_eq (map action_id E) (map action_id actions)

-- how many different actions are not in E
abbrev pub new_actions_count : List Action → List Action → ℕ
new_actions_count E actions = count_new (λ a b. is_eq (action_cmp a b)) E actions
