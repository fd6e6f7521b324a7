use Rattle.std.proofs.Common.{◌≡◌, take, map}
use Rattle.std.specs.Arc.{arc_value}
use Rattle.go_text.specs.Named.{Source}
use Rattle.ws_action.specs.Actions.{named_source, source_with_name}
use Rattle.ws_action.proofs.origin.sources.Given as goal

-- the files so far are shared
abbrev pub invariant-loop-file : goal.invariant-loop-file
invariant-loop-file l = map (λ s. named_source (arc_value {X = Source} s)) l.sources.items ≡ map source_with_name (take l.file-index l.files)
