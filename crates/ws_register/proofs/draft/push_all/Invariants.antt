use Rattle.std.proofs.Common.{◌≡◌, ◌++◌, take}
use Rattle.ws_register.specs.Pages.{values}
use Rattle.ws_register.proofs.draft.push_all.Given as goal

abbrev pub invariant-loop-write : goal.invariant-loop-write
invariant-loop-write l = l.draft ≡ l.fn.draft ++ values (take l.write-index l.writes)
