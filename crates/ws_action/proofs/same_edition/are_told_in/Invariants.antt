use Rattle.std.proofs.Common.{◌≡◌, take}
use Rattle.std.specs.Arc.{arc_value}
use Rattle.std.specs.List.{All}
use Rattle.go_export.specs.Summaries.{Summary}
use Rattle.ws_action.proofs.same_edition.are_told_in.Given as goal

-- the summaries so far are of the edition
abbrev pub invariant-loop-summary : goal.invariant-loop-summary
invariant-loop-summary l = All (λ s. (arc_value {X = Summary} s).edition ≡ l.edition) (take l.summary-index l.summaries)
