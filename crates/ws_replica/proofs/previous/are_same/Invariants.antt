use Rattle.std.proofs.Common.{◌≡◌, ◌++◌, take}
use Rattle.ws_replica.proofs.previous.are_same.Given as goal

-- those so far, and what is left of the others
abbrev pub invariant-loop-file : goal.invariant-loop-file
invariant-loop-file l = take l.file-index l.files ++ l.left ≡ l.others
