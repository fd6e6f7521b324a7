use Rattle.std.proofs.Common.{sym, ◌∙◌}
use Rattle.ws_map.proofs.Keyed.{at_first, later, same_bytes}
use Rattle.ws_map.proofs.next_at.Goals as goal

pub returns-in-Equal-clause-found : goal.returns-in-Equal-clause-found
returns-in-Equal-clause-found g c =
    (c.in-Some.at.now, same_bytes g.K.Ord.cmp g.K.Key.bytes g.met.K.Key.ordered c.in-Some.at.now c.args.key.now (sym c.cmp.ensures ∙ c.in-Equal.is), c.rest.invariant _ (at_first c.rest.rest c.next.new.self _ c.in-Some.ensures.steps))

pub returns-in-Equal-clause-left : goal.returns-in-Equal-clause-left
returns-in-Equal-clause-left g c e in_rest = c.rest.invariant e (later c.rest.rest c.next.new.self _ e c.in-Some.ensures.steps in_rest)

pub rest-preserved : goal.rest-preserved
rest-preserved g c e in_rest = c.rest.invariant e (later c.rest.rest c.next.new.self _ e c.in-Some.ensures.steps in_rest)
