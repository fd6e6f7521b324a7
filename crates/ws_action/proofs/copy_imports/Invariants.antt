use Rattle.std.proofs.Common.{◌≡◌, take, map}
use Rattle.std.specs.Arc.{arc_value}
use Rattle.ws_action.proofs.copy_imports.Given as goal

-- the summaries so far are copied
abbrev pub invariant-loop-summary : goal.invariant-loop-summary
invariant-loop-summary l = map arc_value l.copies.items ≡ map arc_value (take l.summary-index l.imports)
