-- Of two actions with one id the lesser is kept.
use Rattle.std.specs.declared.cmp.Ordering.{Ordering}
use Rattle.ws_map.specs.Greater.{greater}
use Rattle.ws_action.specs.Actions.{Action, action_cmp}

-- the least action comes first
abbrev pub downwards : Action → Action → Ordering
downwards a b = action_cmp b a

abbrev pub lesser : Action → Action → Action
lesser = greater downwards
