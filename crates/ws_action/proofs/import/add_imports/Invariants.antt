use Rattle.std.proofs.Common.{map, take}
use Rattle.ws_action.proofs.Imported.{AddsSpecs}
use Rattle.ws_action.proofs.import.add_imports.Given as goal

-- the paths of the specs so far are added
abbrev pub invariant-loop-spec : goal.invariant-loop-spec
invariant-loop-spec l = AddsSpecs (take l.spec-index l.specs) l.file.edition l.file.text (map (λ p. p.now) l.fn.paths.items) (map (λ p. p.now) l.paths.items)
