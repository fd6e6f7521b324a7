use Rattle.std.proofs.Common.{ap, ◌∙◌}
use Rattle.ws_map.specs.Kept.{joined}
use Rattle.ws_cache.specs.Joined.{lesser}
use Rattle.ws_cache.proofs.Joined.{joined_stands}
use Rattle.ws_cache.proofs.CacheJoin.merge.Goals as goal

pub returns-clause-stands : goal.returns-clause-stands
returns-clause-stands c E F g h =
    joined_stands c.args.self.now c.args.other.now c.merge.new.self E F
    (c.in_ok-merge.ensures.ok
    ∙ ap (λ m. joined lesser m c.other.inside.entries) c.self.view_is
    ∙ ap (joined lesser c.args.self.now) c.other.view_is) g h
