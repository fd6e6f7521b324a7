use Rattle.std.proofs.Common.{sym, ◌∙◌}
use Rattle.ws_map.specs.Greater.{greater}
use Rattle.ws_map.specs.Keyed.{by_key}
use Rattle.ws_map.proofs.Keyed.{gathered-keyed}
use Rattle.ws_map.proofs.are_known.Goals as goal

pub returns-then-len-2 : goal.returns-then-len-2
returns-then-len-2 g c known =
    sym (gathered-keyed g.K.Ord.cmp g.K.Key.bytes g.met.K.Key.ordered (greater g.V.Ranked.rank) (by_key g.K.Key.bytes c.args.others.now.entries) c.args.entries.now.entries c.are_found.ensures.ordered)
    ∙ c.are_found.ensures.known known

pub returns : goal.returns
returns g c known =
    sym (gathered-keyed g.K.Ord.cmp g.K.Key.bytes g.met.K.Key.ordered (greater g.V.Ranked.rank) (by_key g.K.Key.bytes c.args.others.now.entries) c.args.entries.now.entries c.are_passed.ensures.ordered)
    ∙ c.are_passed.ensures.known known
