use Rattle.std.proofs.Common.{map, take}
use Rattle.ws_action.proofs.Imported.{AreFrom}
use Rattle.ws_action.proofs.import.all_imports.Given as goal

-- the paths of the files so far
abbrev pub invariant-loop-file : goal.invariant-loop-file
invariant-loop-file l = AreFrom (take l.file-index l.files) l.files (map (λ p. p.now) l.paths.items)
