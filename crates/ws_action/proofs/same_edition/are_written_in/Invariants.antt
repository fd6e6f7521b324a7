use Rattle.std.proofs.Common.{◌≡◌, take}
use Rattle.std.specs.List.{All}
use Rattle.ws_action.proofs.same_edition.are_written_in.Given as goal

-- the files so far are of the edition
abbrev pub invariant-loop-file : goal.invariant-loop-file
invariant-loop-file l = All (λ file. file.edition ≡ l.edition) (take l.file-index l.files)
