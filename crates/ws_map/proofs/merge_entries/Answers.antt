use Rattle.std.proofs.Common.{◌∙◌}
use Rattle.ws_map.specs.Greater.{greater}
use Rattle.ws_map.specs.Keyed.{by_key}
use Rattle.ws_map.proofs.Keyed.{gathered-keyed}
use Rattle.ws_map.proofs.merge_entries.Goals as goal

pub returns-in-Ok-clause-ok : goal.returns-in-Ok-clause-ok
returns-in-Ok-clause-ok g c =
    c.in-Ok.ensures.ok
    ∙ gathered-keyed g.K.Ord.cmp g.K.Key.bytes g.met.K.Key.ordered (greater g.V.Ranked.rank) (by_key g.K.Key.bytes c.args.mine.now.entries) c.args.entries.now.entries c.take_entries.ensures.ordered
