use Rattle.std.proofs.Common.{◌≡◌, max, drop}
use Rattle.ws_register.specs.Tops.{top}
use Rattle.ws_register.specs.Pages.{values}
use Rattle.ws_register.proofs.page.greatest_of.Given as goal

-- the greatest so far, and of what is left
abbrev pub invariant-loop-write : goal.invariant-loop-write
invariant-loop-write l = max l.greatest (top (values (drop l.write-index l.writes))) ≡ top (values l.writes)
