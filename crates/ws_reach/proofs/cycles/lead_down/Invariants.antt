use Rattle.std.proofs.Common.{◌<◌, ℕ}
use Rattle.ws_reach.specs.Reach.{Edge, rows_of}
use Rattle.ws_reach.specs.Components.{LeadsDown}
use Rattle.ws_reach.proofs.cycles.lead_down.Given as goal

abbrev pub invariant-loop-p : goal.invariant-loop-p
invariant-loop-p l = (p q : ℕ) → p < l.p → Edge (rows_of l.rows) p q → LeadsDown l.ranks l.roots p q
