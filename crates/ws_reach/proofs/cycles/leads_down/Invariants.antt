use Rattle.std.proofs.Common.{◌≡◌, ◌<◌, ℕ, Some}
use Rattle.std.specs.List.{slice_get}
use Rattle.ws_reach.specs.Components.{LeadsDown}
use Rattle.ws_reach.proofs.cycles.leads_down.Given as goal

abbrev pub invariant-loop-q : goal.invariant-loop-q
invariant-loop-q l = (k q : ℕ) → k < l.q-index → slice_get l.row k ≡ Some q → LeadsDown l.ranks l.roots l.p q
