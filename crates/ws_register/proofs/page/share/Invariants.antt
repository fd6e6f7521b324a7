use Rattle.std.proofs.Common.{◌≡◌, ◌++◌, take}
use Rattle.ws_register.specs.Pages.{values}
use Rattle.ws_register.proofs.page.share.Given as goal

abbrev pub invariant-loop-owner : goal.invariant-loop-owner
invariant-loop-owner g l = values l.shared.items ≡ values l.fn.shared.items ++ values (take l.owner-index l.owners)
