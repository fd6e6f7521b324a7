use Rattle.std.proofs.Common.{sym, ap, subst, ◌∙◌}
use Rattle.std.specs.FinMap as map
use Rattle.ws_map.specs.Kept.{StandsAt}
use Rattle.ws_map.proofs.Itself.{stands_at}
use Rattle.ws_version.specs.Writes.{held_cmp}
use Rattle.ws_register.proofs.Registers.get.Goals as goal

pub returns-clause-stands : goal.returns-clause-stands
returns-clause-stands c W h =
    let path = c.args.path.now in
    subst (StandsAt held_cmp W path) (sym (c.get.ensures ∙ ap (λ m. map.get m path) c.self.view_is)) (stands_at held_cmp c.args.self.now W h path)
