use Rattle.std.proofs.Common.{ap, ◌∙◌}
use Rattle.ws_map.specs.Kept.{taken}
use Rattle.ws_cache.specs.Joined.{lesser}
use Rattle.ws_cache.proofs.Joined.{taken_stands}
use Rattle.ws_cache.proofs.Cache.put.Goals as goal

pub returns-clause-stands : goal.returns-clause-stands
returns-clause-stands c E h =
    taken_stands c.args.self.now c.take.new.self E c.args.entry
    (c.in_ok-take.ensures.ok
    ∙ ap (λ m. taken lesser m c.id-id.result c.args.entry) c.self.view_is
    ∙ ap (λ i. taken lesser c.args.self.now i c.args.entry) c.id-id.ensures) h
