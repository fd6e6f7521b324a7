use Rattle.std.proofs.Common.{◌≡◌, map, take}
use Rattle.std.specs.Arc.{arc_value}
use Rattle.go_export.specs.Summaries.{Summary}
use Rattle.ws_action.proofs.import.are_paths.Given as goal

-- the paths so far are the same
abbrev pub invariant-loop-i : goal.invariant-loop-i
invariant-loop-i l = map (λ s. (arc_value {X = Summary} s).path) (take l.i l.summaries) ≡ map (λ p. p.items) (take l.i l.paths)
