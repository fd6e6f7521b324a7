use Rattle.std.proofs.Common.{◌≡◌, drop}
use Rattle.ws_run.specs.Printing.{folders_of, folder_of}
use Rattle.ws_run.proofs.answer.folder_of.Given as goal

-- what is left gives what all of it gives
abbrev pub invariant-loop-its : goal.invariant-loop-its
invariant-loop-its l = folder_of (folders_of (drop l.its-index l.folders)) l.directory ≡ folder_of (folders_of l.folders) l.directory
