use Rattle.std.proofs.Common.{take}
use Rattle.std.specs.Arc.{arc_value}
use Rattle.std.specs.List.{All}
use Rattle.go_export.specs.Summaries.{Summary}
use Rattle.go_export.specs.Writable.{IsWritten}
use Rattle.ws_action.proofs.see_written.Given as goal

-- the texts of the summaries so far tell them
abbrev pub invariant-loop-summary : goal.invariant-loop-summary
invariant-loop-summary l = All (λ s. IsWritten (arc_value {X = Summary} s)) (take l.summary-index l.imports)
