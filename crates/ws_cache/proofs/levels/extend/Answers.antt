use Rattle.std.proofs.Common.{length, ◌∙◌, arith, ap}
use Rattle.std.proofs.lemmas.List.{length_push}
use Rattle.ws_cache.proofs.Sunk.{pushed_empty}
use Rattle.ws_cache.proofs.levels.extend.Goals as goal

pub loop-init : goal.loop-init
loop-init g c = record {
  same = pushed_empty g.met.V.Ranked.total g.met.V.Ranked.one c.args.levels.now.items c.push.new.self.items c.new.result c.in_ok-push.ensures.items c.new.ensures;
  long = ap length c.in_ok-push.ensures.items ∙ length_push c.args.levels.now.items c.new.result ∙ omega arith;
}

pub loop-preserved : goal.loop-preserved
loop-preserved g c = record {
  same = pushed_empty g.met.V.Ranked.total g.met.V.Ranked.one c.loop.levels.items c.push-in-loop.new.self.items c.new-in-loop.result c.in_ok-push-2.ensures.items c.new-in-loop.ensures ∙ c.loop.invariant.same;
  long = let more = ap length c.in_ok-push-2.ensures.items ∙ length_push c.loop.levels.items c.new-in-loop.result in let long = c.loop.invariant.long in omega (arith, more, long);
}
