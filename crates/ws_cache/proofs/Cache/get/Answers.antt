use Rattle.std.proofs.Common.{sym, ap, subst, ◌∙◌}
use Rattle.std.specs.FinMap as map
use Rattle.ws_cache.specs.Held.{IsHeld}
use Rattle.ws_cache.proofs.Joined.{cache_stands}
use Rattle.ws_cache.proofs.Cache.get.Goals as goal

pub returns-clause-stands : goal.returns-clause-stands
returns-clause-stands c E h =
    let value = c.get.ensures ∙ ap (λ m. map.get m c.args.id.now) c.self.view_is in
    subst (IsHeld E c.args.id.now) (sym value) (cache_stands c.args.self.now E h c.args.id.now)
