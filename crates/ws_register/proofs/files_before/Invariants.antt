use Rattle.std.proofs.Common.{◌≡◌, ◌++◌, map, length}
use Rattle.ws_register.specs.Pages.{Ascends}
use Rattle.ws_register.specs.Sources.{texts_of, files_in, pair_of}
use Rattle.ws_register.proofs.files_before.Given as goal

-- the files so far, and those among what is left
abbrev pub invariant-writes : goal.invariant-writes
invariant-writes l = (map pair_of l.files.items ++ files_in l.directory (texts_of l.left) ≡ files_in l.directory (texts_of l.fn.rest)) × Ascends l.left

abbrev pub decreases-writes : goal.decreases-writes
decreases-writes l = length l.left
