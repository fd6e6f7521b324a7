use Rattle.std.proofs.Common.{◌≡◌, false, sym, subst}
use Rattle.std.specs.List.{AllByRecursion}
use Rattle.ws_version.specs.Writes.{Write}
use Rattle.ws_register.specs.Pages.{AllPathsBelow}
use Rattle.ws_register.specs.Between.{is_from}
use Rattle.ws_register.proofs.Ends.{below_start}
use Rattle.ws_register.proofs.walk_from.Goals as goal

pub returns-in-Included : goal.returns-in-Included
returns-in-Included c =
    let walk = c.iter_from.ensures in (
      walk.0,
      walk.1,
      subst (λ start. AllByRecursion (λ (w : Write). is_from start w.0 ≡ false) walk.0) (sym c.in-Included.is)
          (below_start c.in-Included.path walk.0 (subst (AllPathsBelow walk.0) c.deref.ensures walk.2)),
    )
